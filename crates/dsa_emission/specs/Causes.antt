-- What a refusal reports of the faults of an emission.
-- Names, numbers and indices are this project's choice.
use Rattle.std.specs.Prelude.{Bool, true, false, ℕ, List, codes, Option, Some, None}
use Rattle.dsa_descriptor.specs.declared.indices.Indices.{Indices}
use Rattle.dsa_descriptor.specs.declared.indices.Indices.TheVariants.{Empty, One}
use Rattle.dsa_descriptor.specs.Faults.{number}
use Rattle.dsa_descriptor.specs.Causes.{field_name}
use Rattle.dsa_emission.specs.declared.emission_fault.EntryFault.{EntryFault}
use Rattle.dsa_emission.specs.declared.emission_fault.EntryFault.TheVariants.{Field, OverTransfer, MixedPasid, StagingMeets}
use Rattle.dsa_emission.specs.declared.emission_fault.EmissionFault.{EmissionFault}
use Rattle.dsa_emission.specs.declared.emission_fault.EmissionFault.TheVariants.{PortalLength, StagingLength, BatchFields, EntryFence, Entry, RecordBytes, Memory}

-- the number of the fault of a piece that was read back
abbrev pub entry_number : EntryFault → ℕ
entry_number (Field fault) = number fault
entry_number OverTransfer = 37
entry_number MixedPasid = 12
entry_number StagingMeets = 33

-- its name
abbrev pub entry_name : EntryFault → List ℕ
entry_name (Field fault) = field_name fault
entry_name OverTransfer = codes "OverTransfer"
entry_name MixedPasid = codes "MixedPasid"
entry_name StagingMeets = codes "StagingMeets"

-- an allocation failed
abbrev pub emission_is_memory : EmissionFault → Bool
emission_is_memory Memory = true
emission_is_memory PortalLength = false
emission_is_memory (BatchFields group) = false
emission_is_memory StagingLength = false
emission_is_memory (Entry index fault) = false
emission_is_memory (EntryFence group) = false
emission_is_memory (RecordBytes batch) = false

-- the number of an emission's fault
abbrev pub emission_number : EmissionFault → ℕ
emission_number PortalLength = 44
emission_number (BatchFields group) = 45
emission_number StagingLength = 46
emission_number (Entry index fault) = 47
emission_number (EntryFence group) = 48
emission_number (RecordBytes batch) = 49
emission_number Memory = 73

-- its name
abbrev pub emission_name : EmissionFault → List ℕ
emission_name PortalLength = codes "PortalLength"
emission_name (BatchFields group) = codes "BatchFields"
emission_name StagingLength = codes "StagingLength"
emission_name (Entry index fault) = codes "Entry"
emission_name (EntryFence group) = codes "EntryFence"
emission_name (RecordBytes batch) = codes "RecordBytes"
emission_name Memory = codes "Memory"

-- the group, the piece or the batch at fault, if it names one
abbrev pub emission_indices : EmissionFault → Indices
emission_indices PortalLength = Empty
emission_indices (BatchFields group) = One group
emission_indices StagingLength = Empty
emission_indices (Entry index fault) = One index
emission_indices (EntryFence group) = One group
emission_indices (RecordBytes batch) = One batch
emission_indices Memory = Empty

-- the fault within the piece, if the fault is that of a piece
abbrev pub emission_entry : EmissionFault → Option EntryFault
emission_entry PortalLength = None
emission_entry (BatchFields group) = None
emission_entry StagingLength = None
emission_entry (Entry index fault) = Some fault
emission_entry (EntryFence group) = None
emission_entry (RecordBytes batch) = None
emission_entry Memory = None
