-- What a refusal reports. Numbers, names and lines are this project's choice.
use Rattle.std.specs.Prelude.{if◌then◌else◌, ℕ, List, [], ◌++◌, flat_map, codes, decimal, Option, Some, None, option_map}
use Rattle.dsa_descriptor.specs.declared.fault.ListFault.{ListFault}
use Rattle.dsa_descriptor.specs.declared.indices.Indices.{Indices}
use Rattle.dsa_descriptor.specs.declared.indices.Indices.TheVariants.{Empty, One}
use Rattle.dsa_descriptor.specs.Causes.{index_list, list_is_memory, list_number, list_name, list_indices}
use Rattle.dsa_emission.specs.declared.emission_fault.EmissionFault.{EmissionFault}
use Rattle.dsa_settings.specs.Causes.{legal_number, legal_name, legal_indices}
use Rattle.dsa_emission.specs.Causes.{entry_number, entry_name, emission_is_memory, emission_number, emission_name, emission_indices, emission_entry}
use Rattle.dsa_splitter.specs.declared.fault.SplitFault.{SplitFault}
use Rattle.dsa_splitter.specs.Causes.{split_is_memory, split_number, split_name, split_indices}
use Rattle.dsa_core.specs.declared.fault.CoreFault.{CoreFault}
use Rattle.dsa_core.specs.Causes.{core_is_memory, core_number, core_name, core_indices}
use Rattle.dsa_engines.specs.declared.fault.RoomFault.{RoomFault}
use Rattle.dsa_engines.specs.Causes.{room_is_memory, room_number, room_name, room_indices}
use Rattle.dsa_checker.specs.Causes.{check_number, check_name, check_indices, check_plan_fault}
use Rattle.dsa_calls.specs.declared.fault.InnerFault.{InnerFault}
use Rattle.dsa_calls.specs.declared.fault.InnerFault.TheVariants.{Entry as InEntry, Legal as InLegal}
use Rattle.dsa_calls.specs.declared.fault.PlanFault.{PlanFault}
use Rattle.dsa_calls.specs.declared.fault.PlanFault.TheVariants.{List as InList, Split, Emission, Core, Room, Legal, Check, OutOfImage, ImageSize, OverTransfer, Shape, Memory, Json, Member, Do, Settings, Hex, Engines, JobTooLong}

-- ---- the causes of the crates below, as refusals; out of memory is a single cause, wherever it comes from

-- a fault of a list as a refusal
abbrev pub list_cause : ListFault → PlanFault
list_cause cause = if list_is_memory cause then Memory else InList cause

-- a fault of splitting as a refusal
abbrev pub split_cause : SplitFault → PlanFault
split_cause cause = if split_is_memory cause then Memory else Split cause

-- a fault of an emission as a refusal
abbrev pub emission_cause : EmissionFault → PlanFault
emission_cause cause = if emission_is_memory cause then Memory else Emission cause

-- a fault of a room or a replay as a refusal
abbrev pub core_cause : CoreFault → PlanFault
core_cause cause = if core_is_memory cause then Memory else Core cause

-- a fault of a run by engines as a refusal
abbrev pub room_cause : RoomFault → PlanFault
room_cause cause = if room_is_memory cause then Memory else Room cause

-- ---- the number, the name and the indices

-- the number of a refusal, as docs/FORMATS.md lists it (this project's choice)
abbrev pub fault_number : PlanFault → ℕ
fault_number (InList fault) = list_number fault
fault_number (Split fault) = split_number fault
fault_number (Emission fault) = emission_number fault
fault_number (Core fault) = core_number fault
fault_number (Room fault) = room_number fault
fault_number (Legal fault) = legal_number fault
fault_number (Check fault) = check_number fault
fault_number (OutOfImage index) = 20
fault_number ImageSize = 21
fault_number (OverTransfer index) = 37
fault_number Shape = 50
fault_number Memory = 73
fault_number Json = 80
fault_number Member = 81
fault_number Do = 82
fault_number Settings = 83
fault_number Hex = 84
fault_number Engines = 85
fault_number JobTooLong = 86

-- its name
abbrev pub fault_name : PlanFault → List ℕ
fault_name (InList fault) = list_name fault
fault_name (Split fault) = split_name fault
fault_name (Emission fault) = emission_name fault
fault_name (Core fault) = core_name fault
fault_name (Room fault) = room_name fault
fault_name (Legal fault) = legal_name fault
fault_name (Check fault) = check_name fault
fault_name (OutOfImage index) = codes "OutOfImage"
fault_name ImageSize = codes "ImageSize"
fault_name (OverTransfer index) = codes "OverTransfer"
fault_name Shape = codes "Shape"
fault_name Memory = codes "Memory"
fault_name Json = codes "Json"
fault_name Member = codes "Member"
fault_name Do = codes "Do"
fault_name Settings = codes "Settings"
fault_name Hex = codes "Hex"
fault_name Engines = codes "Engines"
fault_name JobTooLong = codes "JobTooLong"

-- the indices that it names
abbrev pub fault_indices : PlanFault → Indices
fault_indices (InList fault) = list_indices fault
fault_indices (Split fault) = split_indices fault
fault_indices (Emission fault) = emission_indices fault
fault_indices (Core fault) = core_indices fault
fault_indices (Room fault) = room_indices fault
fault_indices (Legal fault) = legal_indices fault
fault_indices (Check fault) = check_indices fault
fault_indices (OutOfImage index) = One index
fault_indices ImageSize = Empty
fault_indices (OverTransfer index) = One index
fault_indices Shape = Empty
fault_indices Memory = Empty
fault_indices Json = Empty
fault_indices Member = Empty
fault_indices Do = Empty
fault_indices Settings = Empty
fault_indices Hex = Empty
fault_indices Engines = Empty
fault_indices JobTooLong = Empty

-- ---- the cause within

-- its number
abbrev pub inner_number : InnerFault → ℕ
inner_number (InEntry fault) = entry_number fault
inner_number (InLegal fault) = legal_number fault

-- its name
abbrev pub inner_name : InnerFault → List ℕ
inner_name (InEntry fault) = entry_name fault
inner_name (InLegal fault) = legal_name fault

-- the indices that it names
abbrev pub inner_indices : InnerFault → Indices
inner_indices (InEntry fault) = Empty
inner_indices (InLegal fault) = legal_indices fault

-- for an emission the fault of the refused piece, for a certificate that of its plan
abbrev pub fault_inner : PlanFault → Option InnerFault
fault_inner (Emission fault) = option_map InEntry (emission_entry fault)
fault_inner (Check fault) = option_map InLegal (check_plan_fault fault)
fault_inner (InList fault) = None
fault_inner (Split fault) = None
fault_inner (Core fault) = None
fault_inner (Room fault) = None
fault_inner (Legal fault) = None
fault_inner (OutOfImage index) = None
fault_inner ImageSize = None
fault_inner (OverTransfer index) = None
fault_inner Shape = None
fault_inner Memory = None
fault_inner Json = None
fault_inner Member = None
fault_inner Do = None
fault_inner Settings = None
fault_inner Hex = None
fault_inner Engines = None
fault_inner JobTooLong = None

-- ---- the line

-- a space, and a number in decimal
abbrev pub place_text : ℕ → List ℕ
place_text n = codes " " ++ decimal n

-- a space and the number, for each index
abbrev pub indices_text : Indices → List ℕ
indices_text indices = flat_map place_text (index_list indices)

-- a number and a name, with a space before each
abbrev pub named_text : ℕ → List ℕ → List ℕ
named_text n name = place_text n ++ codes " " ++ name

-- what the refusal reports of the cause within, if a piece or a plan within is refused
abbrev pub inner_text : Option InnerFault → List ℕ
inner_text None = []
inner_text (Some cause) = named_text (inner_number cause) (inner_name cause) ++ indices_text (inner_indices cause)

-- `refused`, the number, the name and the indices, with a space before each, what is reported of
-- the cause within, and the end of the line
abbrev pub refusal_line : PlanFault → List ℕ
refusal_line fault =
    codes "refused" ++ named_text (fault_number fault) (fault_name fault) ++ indices_text (fault_indices fault) ++ inner_text (fault_inner fault) ++ codes "\n"
