-- What judging says of the bytes of a list, a plan and the settings.
use Rattle.std.specs.Prelude.{◌≡◌, ◌⊎◌, ℕ, ◌<◌, ◌≤◌, List, length, map, slice_get, Option, Some, None, Result, Ok, Err}
use Rattle.dsa_descriptor.specs.Fields.{Fields}
use Rattle.dsa_descriptor.specs.Pieces.{most_pieces}
use Rattle.dsa_ranges.specs.Ranges.{ConflictAt}
use Rattle.dsa_settings.specs.Settings.{Limits, tariff_of}
use Rattle.dsa_settings.specs.Plan.{Plan, plan_cost}
use Rattle.dsa_settings.specs.Legal.{IsLegal}
use Rattle.dsa_settings.specs.declared.legal.LegalFault.{LegalFault}
use Rattle.dsa_settings.specs.LegalFaults.{IsFirstLegalFault}
use Rattle.dsa_splitter.specs.declared.fault.SplitFault.TheVariants.{TooManyPieces}
use Rattle.dsa_calls.specs.declared.fault.PlanFault.{PlanFault}
use Rattle.dsa_calls.specs.declared.fault.PlanFault.TheVariants.{Split, OverTransfer, Legal}
use Rattle.dsa_calls.specs.Lists.{OverList}

-- the transfer sizes of descriptors
abbrev pub sizes_of : List Fields → List ℕ
sizes_of pieces = map (λ f. f.size) pieces

-- no size is above the greatest transfer
abbrev pub FitTransfer : ℕ → List ℕ → Type 0
FitTransfer greatest sizes = (i size : ℕ) → slice_get sizes i ≡ Some size → size ≤ greatest

-- no size before index i is above it
abbrev pub FitBefore : ℕ → List ℕ → ℕ → Type 0
FitBefore greatest sizes i = (j size : ℕ) → j < i → slice_get sizes j ≡ Some size → size ≤ greatest

-- size i is above it, and none before it is
pub record IsFirstOver (greatest : ℕ) (sizes : List ℕ) (i : ℕ) : Type 0 where
  pub long : ℕ
  pub there : slice_get sizes i ≡ Some long
  pub over : greatest < long
  pub before : FitBefore greatest sizes i

-- the outcome of judging the plan for pieces of these sizes: its cost if it is legal for them, else the first cause, in the
-- order of the number of pieces, their sizes and the faults of the plan (this project's choice); `C` says which pieces
-- conflict
abbrev pub JudgesPiecesBy : (ℕ → ℕ → Type 0) → List ℕ → Plan → Limits → Result ℕ PlanFault → Type 0
JudgesPiecesBy C sizes plan settings (Ok cost) =
    (length sizes ≤ most_pieces) × FitTransfer settings.greatest_transfer sizes
    × IsLegal C settings.greatest_batch (length sizes) plan
    × (cost ≡ plan_cost (tariff_of settings) plan)
JudgesPiecesBy C sizes plan settings (Err cause) =
    ((cause ≡ Split TooManyPieces) × (most_pieces < length sizes))
    ⊎ ((i : ℕ) × (cause ≡ OverTransfer i) × (length sizes ≤ most_pieces) × IsFirstOver settings.greatest_transfer sizes i)
    ⊎ ((fault : LegalFault) × (cause ≡ Legal fault) × (length sizes ≤ most_pieces) × FitTransfer settings.greatest_transfer sizes
    × IsFirstLegalFault C settings.greatest_batch (length sizes) plan fault)

-- the same for descriptors without barriers
abbrev pub JudgesPieces : List Fields → Plan → Limits → Result ℕ PlanFault → Type 0
JudgesPieces pieces plan settings outcome = JudgesPiecesBy (ConflictAt pieces) (sizes_of pieces) plan settings outcome

-- the outcome of judging these bytes: the first fault of the bytes as a list, or the outcome of judging the descriptors
-- that they spell
abbrev pub Judges : List ℕ → Plan → Limits → Result ℕ PlanFault → Type 0
Judges bytes plan settings outcome = OverList (λ fs o. JudgesPieces fs plan settings o) bytes outcome

-- none is too long, or this one is the first
abbrev pub FindsOver : ℕ → List ℕ → Option ℕ → Type 0
FindsOver greatest sizes None = FitTransfer greatest sizes
FindsOver greatest sizes (Some i) = IsFirstOver greatest sizes i
