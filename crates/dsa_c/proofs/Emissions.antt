-- Why the bytes of groups are refused.
use Rattle.std.proofs.Common.{◌≡◌, ◌≢◌, ◌⊎◌, inl, inr, List, ℕ, ap, subst, refl, ◌∙◌}
use Rattle.dsa_emission.specs.declared.emission_fault.EmissionFault.{EmissionFault}
use Rattle.dsa_emission.specs.declared.emission_fault.EmissionFault.TheVariants.{PortalLength, StagingLength, BatchFields, EntryFence, Entry, RecordBytes, Memory}
use Rattle.dsa_calls.specs.declared.fault.PlanFault.{PlanFault}
use Rattle.dsa_calls.specs.declared.fault.PlanFault.TheVariants.{Emission as InEmission, Memory as NoMemory}
use Rattle.dsa_calls.specs.Fault.{emission_cause}
use Rattle.dsa_emission.specs.EmissionFaults.{IsFirstEmissionFaultAs}
use Rattle.dsa_settings.specs.Settings.{Limits}
use Rattle.dsa_operations.specs.Operations.{operation_kind}
use Rattle.dsa_c.specs.declared.settings.RawSettings.{RawSettings}
use Rattle.dsa_c.specs.declared.refusal.RawRefusal.{RawRefusal}
use Rattle.dsa_c.specs.Raw.{limits_of, AreSettings, refusal_of}
use Rattle.dsa_c.specs.Tracking.{RefusesGroups}

-- a fault of an emission is one of memory, or its own
cause_is : (fault : EmissionFault) → (emission_cause fault ≡ NoMemory) ⊎ ((fault ≢ Memory) × (emission_cause fault ≡ InEmission fault))
cause_is PortalLength = inr (λ e. cc, refl)
cause_is StagingLength = inr (λ e. cc, refl)
cause_is (BatchFields group) = inr (λ e. cc, refl)
cause_is (EntryFence group) = inr (λ e. cc, refl)
cause_is (Entry index fault) = inr (λ e. cc, refl)
cause_is (RecordBytes batch) = inr (λ e. cc, refl)
cause_is Memory = inl refl

pub refuses_emission :
    (s : RawSettings) (table words portal staging : List ℕ) (places : ℕ) (l : Limits) (fault : EmissionFault) (cause : PlanFault) (r : RawRefusal) → l ≡ limits_of s table → AreSettings s table → IsFirstEmissionFaultAs operation_kind l portal staging fault →
    cause ≡ emission_cause fault → r ≡ refusal_of cause → RefusesGroups s table words portal staging places r
refuses_emission s table words portal staging places l fault cause r is are first cause_of value =
    elim (cause_is fault) [
      | inl memory ↦ inr (inl (value ∙ ap refusal_of (cause_of ∙ memory), are))
      | inr other ↦ inr (inr (inl (fault, other.0, are, subst (λ (x : Limits). IsFirstEmissionFaultAs operation_kind x portal staging fault) is first, value ∙ ap refusal_of (cause_of ∙ other.1))))
    ]
