-- What a refusal reports of the faults of a run by engines.
-- Names, numbers and indices are this project's choice.
use Rattle.std.specs.Prelude.{Bool, true, false, ℕ, List, codes}
use Rattle.dsa_descriptor.specs.declared.indices.Indices.{Indices}
use Rattle.dsa_descriptor.specs.declared.indices.Indices.TheVariants.{Empty}
use Rattle.dsa_engines.specs.declared.fault.RoomFault.{RoomFault}
use Rattle.dsa_engines.specs.declared.fault.RoomFault.TheVariants.{GateShut, Stale, Mixed, Memory, TooLong}

-- an allocation failed
abbrev pub room_is_memory : RoomFault → Bool
room_is_memory Memory = true
room_is_memory GateShut = false
room_is_memory Stale = false
room_is_memory Mixed = false
room_is_memory TooLong = false

-- the number, the name and the indices
abbrev pub room_number : RoomFault → ℕ
room_number GateShut = 70
room_number Stale = 71
room_number Mixed = 72
room_number Memory = 73
room_number TooLong = 75

-- its name
abbrev pub room_name : RoomFault → List ℕ
room_name GateShut = codes "GateShut"
room_name Stale = codes "Stale"
room_name Mixed = codes "Mixed"
room_name Memory = codes "Memory"
room_name TooLong = codes "TooLong"

-- it names none
abbrev pub room_indices : RoomFault → Indices
room_indices GateShut = Empty
room_indices Stale = Empty
room_indices Mixed = Empty
room_indices Memory = Empty
room_indices TooLong = Empty
