-- What a refusal reports of the faults of splitting.
-- Names, numbers and indices are this project's choice.
use Rattle.std.specs.Prelude.{Bool, true, false, ℕ, List, codes}
use Rattle.dsa_descriptor.specs.declared.indices.Indices.{Indices}
use Rattle.dsa_descriptor.specs.declared.indices.Indices.TheVariants.{Empty, One}
use Rattle.dsa_splitter.specs.declared.fault.SplitFault.{SplitFault}
use Rattle.dsa_splitter.specs.declared.fault.SplitFault.TheVariants.{DeltaTooLong, ExpectedSplit, TooManyPieces, StagingMeets, RowMeetsData, RowWrap, Memory}

-- an allocation failed
abbrev pub split_is_memory : SplitFault → Bool
split_is_memory Memory = true
split_is_memory (DeltaTooLong index) = false
split_is_memory (ExpectedSplit index) = false
split_is_memory TooManyPieces = false
split_is_memory (StagingMeets index) = false
split_is_memory (RowMeetsData index) = false
split_is_memory (RowWrap index) = false

-- the number of the fault
abbrev pub split_number : SplitFault → ℕ
split_number (DeltaTooLong index) = 30
split_number (ExpectedSplit index) = 31
split_number TooManyPieces = 32
split_number (StagingMeets index) = 33
split_number (RowMeetsData index) = 34
split_number (RowWrap index) = 35
split_number Memory = 73

-- its name
abbrev pub split_name : SplitFault → List ℕ
split_name (DeltaTooLong index) = codes "DeltaTooLong"
split_name (ExpectedSplit index) = codes "ExpectedSplit"
split_name TooManyPieces = codes "TooManyPieces"
split_name (StagingMeets index) = codes "StagingMeets"
split_name (RowMeetsData index) = codes "RowMeetsData"
split_name (RowWrap index) = codes "RowWrap"
split_name Memory = codes "Memory"

-- the operation or the piece at fault, if it names one
abbrev pub split_indices : SplitFault → Indices
split_indices (DeltaTooLong index) = One index
split_indices (ExpectedSplit index) = One index
split_indices TooManyPieces = Empty
split_indices (StagingMeets index) = One index
split_indices (RowMeetsData index) = One index
split_indices (RowWrap index) = One index
split_indices Memory = Empty
