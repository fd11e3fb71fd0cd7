-- What a refusal reports of the faults of a room or a replay.
-- Names, numbers and indices are this project's choice.
use Rattle.std.specs.Prelude.{Bool, true, false, ℕ, List, codes}
use Rattle.dsa_descriptor.specs.declared.indices.Indices.{Indices}
use Rattle.dsa_descriptor.specs.declared.indices.Indices.TheVariants.{Empty, One}
use Rattle.dsa_core.specs.declared.fault.CoreFault.{CoreFault}
use Rattle.dsa_core.specs.declared.fault.CoreFault.TheVariants.{Memory, TooLong, NotAStep, Incomplete}

-- an allocation failed
abbrev pub core_is_memory : CoreFault → Bool
core_is_memory Memory = true
core_is_memory TooLong = false
core_is_memory (NotAStep event) = false
core_is_memory Incomplete = false

-- the number of the fault
abbrev pub core_number : CoreFault → ℕ
core_number Memory = 73
core_number TooLong = 75
core_number (NotAStep event) = 76
core_number Incomplete = 77

-- its name
abbrev pub core_name : CoreFault → List ℕ
core_name Memory = codes "Memory"
core_name TooLong = codes "TooLong"
core_name (NotAStep event) = codes "NotAStep"
core_name Incomplete = codes "Incomplete"

-- the event or the piece at fault, if it names one
abbrev pub core_indices : CoreFault → Indices
core_indices Memory = Empty
core_indices TooLong = Empty
core_indices (NotAStep event) = One event
core_indices Incomplete = Empty
