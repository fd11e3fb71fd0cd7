-- Of faults of a length at most one is the first, but for memory.
use Rattle.std.proofs.Common.{◌≡◌, ◌≢◌, ℕ, ◌%◌, List, length, refl, sym, ap, ◌∙◌, inl, inr}
use Rattle.std.specs.Prelude.{◌⊎◌}
use Rattle.dsa_emission.specs.declared.emission_fault.EmissionFault.{EmissionFault}
use Rattle.dsa_lines.specs.declared.fault.EmittedFault.{EmittedFault}
use Rattle.dsa_lines.specs.declared.fault.EmittedFault.TheVariants.{Emission, Memory}
use Rattle.dsa_lines.specs.Portals.{IsFirstLengthFault}

pub only_memory : (unit : ℕ) (wrong : EmissionFault) (bytes : List ℕ) (fault : EmittedFault) → length bytes % unit ≡ 0 → IsFirstLengthFault unit wrong bytes fault → fault ≡ Memory
only_memory unit wrong bytes (Emission f) whole first = absurd (first.1 whole)
only_memory unit wrong bytes Memory whole first = refl

pub whole_or_fault : (unit : ℕ) (wrong : EmissionFault) (bytes : List ℕ) (fault : EmittedFault) → length bytes % unit ≡ 0 → fault ≢ Memory → IsFirstLengthFault unit wrong bytes fault → ⊥
whole_or_fault unit wrong bytes fault whole other first = other (only_memory unit wrong bytes fault whole first)

pub refused_for_length : (unit : ℕ) (wrong : EmissionFault) (bytes : List ℕ) (other fault : EmittedFault)
    → fault ≢ Memory → IsFirstLengthFault unit wrong bytes other → IsFirstLengthFault unit wrong bytes fault → (other ≡ fault) ⊎ (other ≡ Memory)
refused_for_length unit wrong bytes Memory fault ne p q = inr refl
refused_for_length unit wrong bytes (Emission f) Memory ne p q = absurd (ne refl)
refused_for_length unit wrong bytes (Emission f) (Emission g) ne p q = inl (ap Emission (p.0 ∙ sym q.0))
