-- What a refusal reports of the faults of this crate.
-- Names, numbers and indices are this project's choice.
use Rattle.std.specs.Prelude.{Bool, true, false, ℕ, List, [], ◌∷◌, codes}
use Rattle.dsa_descriptor.specs.declared.fault.FieldFault.{FieldFault}
use Rattle.dsa_descriptor.specs.declared.fault.FieldFault.TheVariants.{Opcode, FlagBits, Reserved, SizeZero, Wrap, RecordAlign, DualcastBits, Overlap, Delta, Expected, RecordMeetsData}
use Rattle.dsa_descriptor.specs.declared.fault.ListFault.{ListFault}
use Rattle.dsa_descriptor.specs.declared.fault.ListFault.TheVariants.{Length, Field, MixedPasid, Memory}
use Rattle.dsa_descriptor.specs.declared.indices.Indices.{Indices}
use Rattle.dsa_descriptor.specs.declared.indices.Indices.TheVariants.{Empty, One, Two}
use Rattle.dsa_descriptor.specs.Faults.{number}

-- the indices that a refusal names, as a list
abbrev pub index_list : Indices → List ℕ
index_list Empty = []
index_list (One index) = index ∷ []
index_list (Two first second) = first ∷ second ∷ []

-- the name of a descriptor's fault
abbrev pub field_name : FieldFault → List ℕ
field_name Opcode = codes "Opcode"
field_name FlagBits = codes "FlagBits"
field_name Reserved = codes "Reserved"
field_name SizeZero = codes "SizeZero"
field_name Wrap = codes "Wrap"
field_name RecordAlign = codes "RecordAlign"
field_name DualcastBits = codes "DualcastBits"
field_name Overlap = codes "Overlap"
field_name Delta = codes "Delta"
field_name Expected = codes "Expected"
field_name RecordMeetsData = codes "RecordMeetsData"

-- an allocation failed
abbrev pub list_is_memory : ListFault → Bool
list_is_memory Memory = true
list_is_memory Length = false
list_is_memory (Field index fault) = false
list_is_memory (MixedPasid index) = false

-- the number of a list's fault
abbrev pub list_number : ListFault → ℕ
list_number Length = 1
list_number (Field index fault) = number fault
list_number (MixedPasid index) = 12
list_number Memory = 73

-- its name; for a fault of an entry, the name of that fault
abbrev pub list_name : ListFault → List ℕ
list_name Length = codes "Length"
list_name (Field index fault) = field_name fault
list_name (MixedPasid index) = codes "MixedPasid"
list_name Memory = codes "Memory"

-- the entry at fault, if it names one
abbrev pub list_indices : ListFault → Indices
list_indices Length = Empty
list_indices (Field index fault) = One index
list_indices (MixedPasid index) = One index
list_indices Memory = Empty
