-- What a refusal reports of a plan's fault. Names, numbers and indices are this project's choice.
use Rattle.std.specs.Prelude.{ℕ, List, codes}
use Rattle.dsa_descriptor.specs.declared.indices.Indices.{Indices}
use Rattle.dsa_descriptor.specs.declared.indices.Indices.TheVariants.{Empty, One, Two}
use Rattle.dsa_settings.specs.declared.legal.LegalFault.{LegalFault}
use Rattle.dsa_settings.specs.declared.legal.LegalFault.TheVariants.{Count, GroupSize, FirstFence, Unfenced}

-- the number of a plan's fault
abbrev pub legal_number : LegalFault → ℕ
legal_number Count = 40
legal_number (GroupSize group) = 41
legal_number (FirstFence group) = 42
legal_number (Unfenced first second) = 43

-- its name
abbrev pub legal_name : LegalFault → List ℕ
legal_name Count = codes "Count"
legal_name (GroupSize group) = codes "GroupSize"
legal_name (FirstFence group) = codes "FirstFence"
legal_name (Unfenced first second) = codes "Unfenced"

-- the group or the two pieces at fault, if it names any
abbrev pub legal_indices : LegalFault → Indices
legal_indices Count = Empty
legal_indices (GroupSize group) = One group
legal_indices (FirstFence group) = One group
legal_indices (Unfenced first second) = Two first second
