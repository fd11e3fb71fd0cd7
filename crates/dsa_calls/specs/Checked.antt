-- What checking says of the bytes of an emission, the settings and a certificate.
use Rattle.std.specs.Prelude.{◌≡◌, ◌≢◌, ◌⊎◌, ℕ, List, length, Result, Ok, Err}
use Rattle.dsa_descriptor.specs.Fields.{Fields}
use Rattle.dsa_ranges.specs.Pieces.{DescriptorConflictAt, Kind, descriptors}
use Rattle.dsa_ranges.specs.Ranges.{ConflictAt}
use Rattle.dsa_settings.specs.Settings.{Limits, tariff_of, version_of}
use Rattle.dsa_settings.specs.Plan.{Plan, plan_cost}
use Rattle.dsa_settings.specs.Legal.{IsLegal}
use Rattle.dsa_plan.specs.Certificate.{IsGood, Contents}
use Rattle.dsa_emission.specs.EmissionFaults.{IsEmissionAs, IsFirstEmissionFaultAs}
use Rattle.dsa_emission.specs.declared.emission_fault.EmissionFault.{EmissionFault}
use Rattle.dsa_emission.specs.declared.emission_fault.EmissionFault.TheVariants.{Memory as EmissionMemory}
use Rattle.dsa_checker.specs.declared.fault.CheckFault.{CheckFault}
use Rattle.dsa_checker.specs.Checked.{IsFirstCheckFault}
use Rattle.dsa_calls.specs.declared.fault.PlanFault.{PlanFault}
use Rattle.dsa_calls.specs.declared.fault.PlanFault.TheVariants.{Emission, Check}

-- the certificate proves that the plan of n pieces is legal, and that none costs less; `C` says which pieces conflict
pub record IsShownLeastBy (C : ℕ → ℕ → Type 0) (s : Limits) (n : ℕ) (plan : Plan) (c : Contents) (cost : ℕ) : Type 0 where
  pub legal : IsLegal C s.greatest_batch n plan
  pub version : c.version ≡ version_of s
  pub good : IsGood C s.greatest_batch (tariff_of s) n c.prices c.pairs cost
  pub is_cost : cost ≡ plan_cost (tariff_of s) plan

-- the same for pieces without barriers
abbrev pub IsShownLeast : Limits → List Fields → Plan → Contents → ℕ → Type 0
IsShownLeast s pieces plan c cost = IsShownLeastBy (ConflictAt pieces) s (length pieces) plan c cost

-- the outcome of checking a plan: its cost if the certificate proves it, else the first fault
abbrev pub ChecksPlanBy : (ℕ → ℕ → Type 0) → Limits → ℕ → Plan → Contents → Result ℕ PlanFault → Type 0
ChecksPlanBy C s n plan c (Ok cost) = IsShownLeastBy C s n plan c cost
ChecksPlanBy C s n plan c (Err cause) =
    (fault : CheckFault) × (cause ≡ Check fault)
    × IsFirstCheckFault C s.greatest_batch (tariff_of s) (version_of s) n plan c fault

-- the same for pieces without barriers
abbrev pub ChecksPlan : Limits → List Fields → Plan → Contents → Result ℕ PlanFault → Type 0
ChecksPlan s pieces plan c outcome = ChecksPlanBy (ConflictAt pieces) s (length pieces) plan c outcome

-- The outcome of checking these bytes as an emission of pieces of a kind: their first fault as such, or the outcome of
-- checking the plan whose emission they are. `conflict` says which pieces of a list conflict.
abbrev pub ChecksSubmitted : {P : Type 0} → Kind P → (List P → ℕ → ℕ → Type 0) → List ℕ → List ℕ → Limits → Contents → Result ℕ PlanFault → Type 0
ChecksSubmitted {P} kind conflict portal staging s c outcome =
    ((fault : EmissionFault) × (fault ≢ EmissionMemory) × IsFirstEmissionFaultAs kind s portal staging fault × (outcome ≡ Err (Emission fault)))
    ⊎ ((plan : Plan) × (ps : List P) × IsEmissionAs kind s portal staging plan ps × ChecksPlanBy (conflict ps) s (length ps) plan c outcome)

-- the same of descriptors
abbrev pub Checks : List ℕ → List ℕ → Limits → Contents → Result ℕ PlanFault → Type 0
Checks portal staging s c outcome = ChecksSubmitted descriptors DescriptorConflictAt portal staging s c outcome
