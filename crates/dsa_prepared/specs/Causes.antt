-- What a refusal reports of the faults of preparing and filling.
-- Names, numbers and indices are this project's choice.
use Rattle.std.specs.Prelude.{ℕ, List, codes}
use Rattle.dsa_descriptor.specs.declared.indices.Indices.{Indices}
use Rattle.dsa_descriptor.specs.declared.indices.Indices.TheVariants.{Empty, One, Two}
use Rattle.dsa_calls.specs.Fault.{fault_number, fault_name, fault_indices}
use Rattle.dsa_prepared.specs.declared.fault.PrepareFault.{PrepareFault}
use Rattle.dsa_prepared.specs.declared.fault.PrepareFault.TheVariants.{Plan, RegionWrap as PrepareWrap, RegionOrder, Outside}
use Rattle.dsa_prepared.specs.declared.fault.FillFault.{FillFault}
use Rattle.dsa_prepared.specs.declared.fault.FillFault.TheVariants.{Bases, Room, RegionWrap, Misaligned, DualcastBits, RegionsMeet, StagingMeets, Staging}

-- the number of a fault of preparing
abbrev pub prepare_number : PrepareFault → ℕ
prepare_number (Plan fault) = fault_number fault
prepare_number (PrepareWrap region) = 100
prepare_number (RegionOrder region) = 101
prepare_number (Outside operation) = 102

-- its name
abbrev pub prepare_name : PrepareFault → List ℕ
prepare_name (Plan fault) = fault_name fault
prepare_name (PrepareWrap region) = codes "RegionWrap"
prepare_name (RegionOrder region) = codes "RegionOrder"
prepare_name (Outside operation) = codes "Outside"

-- the region or the operation at fault, or the indices of planning's refusal
abbrev pub prepare_indices : PrepareFault → Indices
prepare_indices (Plan fault) = fault_indices fault
prepare_indices (PrepareWrap region) = One region
prepare_indices (RegionOrder region) = One region
prepare_indices (Outside operation) = One operation

-- the number of a fault of filling
abbrev pub fill_number : FillFault → ℕ
fill_number Bases = 103
fill_number Room = 104
fill_number (RegionWrap region) = 105
fill_number (Misaligned region) = 106
fill_number (DualcastBits region other) = 107
fill_number (RegionsMeet region other) = 108
fill_number (StagingMeets region) = 109
fill_number Staging = 110

-- its name
abbrev pub fill_name : FillFault → List ℕ
fill_name Bases = codes "Bases"
fill_name Room = codes "Room"
fill_name (RegionWrap region) = codes "RegionWrap"
fill_name (Misaligned region) = codes "Misaligned"
fill_name (DualcastBits region other) = codes "DualcastBits"
fill_name (RegionsMeet region other) = codes "RegionsMeet"
fill_name (StagingMeets region) = codes "StagingMeets"
fill_name Staging = codes "Staging"

-- the regions at fault, if it names any
abbrev pub fill_indices : FillFault → Indices
fill_indices Bases = Empty
fill_indices Room = Empty
fill_indices (RegionWrap region) = One region
fill_indices (Misaligned region) = One region
fill_indices (DualcastBits region other) = Two region other
fill_indices (RegionsMeet region other) = Two region other
fill_indices (StagingMeets region) = One region
fill_indices Staging = Empty
