-- Checking the bytes that submit pieces of any kind has one outcome, and what it accepts is least.
use Rattle.std.proofs.Common.{◌≡◌, inl, inr, if◌then◌else◌, Bool, true, false, ℕ, List, length, Result, Ok, Err, IsOk, refl, sym, ap, subst, ◌∙◌}
use Rattle.dsa_descriptor.specs.declared.descriptor.Descriptor.{Descriptor}
use Rattle.dsa_descriptor.specs.Lists.{AreEntries}
use Rattle.dsa_descriptor.proofs.Listed.{are_entries}
use Rattle.dsa_emission.specs.declared.emission_fault.EmissionFault.{EmissionFault}
use Rattle.dsa_emission.specs.declared.emission_fault.EmissionFault.TheVariants.{Memory as EmissionMemory}
use Rattle.dsa_emission.specs.Causes.{emission_is_memory}
use Rattle.dsa_emission.proofs.OfDescriptors.{emission_as}
use Rattle.dsa_emission.proofs.OneFault.{one_fault, none_to_tell}
use Rattle.dsa_emission.proofs.Told.{one_emission_by}
use Rattle.dsa_ranges.specs.Pieces.{DescriptorConflictAt, Kind, descriptors}
use Rattle.dsa_settings.specs.Settings.{Limits, tariff_of}
use Rattle.dsa_settings.specs.Plan.{Plan}
use Rattle.dsa_settings.specs.Legal.{IsLeast}
use Rattle.dsa_plan.specs.Certificate.{Contents}
use Rattle.dsa_emission.specs.EmissionFaults.{IsEmission, IsEmissionAs, IsFirstEmissionFaultAs}
use Rattle.dsa_plan.proofs.Steps.{yes_means_least}
use Rattle.dsa_calls.specs.declared.fault.PlanFault.{PlanFault}
use Rattle.dsa_calls.specs.declared.fault.PlanFault.TheVariants.{Emission, Memory}
use Rattle.dsa_calls.specs.Fault.{emission_cause}
use Rattle.dsa_calls.specs.Lists.{OrMemory}
use Rattle.dsa_calls.specs.Checked.{ChecksPlanBy, ChecksSubmitted}
use Rattle.dsa_calls.specs.Laws.{OneChecked}
use Rattle.dsa_calls.proofs.CheckedOnce.{one_checked_by}

module _ {P : Type 0} (kind : Kind P) (conflict : List P → ℕ → ℕ → Type 0) (portal staging : List ℕ) (s : Limits) (c : Contents) where
  -- the bytes were refused
  pub bytes_refused : (cause : EmissionFault) (fault : PlanFault) → fault ≡ emission_cause cause → IsFirstEmissionFaultAs kind s portal staging cause
      → OrMemory {X = ℕ} {Y = ℕ} (λ cost. cost) (ChecksSubmitted kind conflict portal staging s c) (Err fault)
  bytes_refused cause fault is first = go (emission_is_memory cause) refl is
    where
      go : (b : Bool) → emission_is_memory cause ≡ b → fault ≡ (if b then Memory else Emission cause)
          → OrMemory {X = ℕ} {Y = ℕ} (λ cost. cost) (ChecksSubmitted kind conflict portal staging s c) (Err fault)
      go true e same = inl same
      go false e same = inr (inl (cause, (λ f. let g = ap emission_is_memory f in cc), first, ap Err same))

  -- the plan was checked
  pub plan_checked : (plan : Plan) (ps : List P) (o : Result ℕ PlanFault) → IsEmissionAs kind s portal staging plan ps → ChecksPlanBy (conflict ps) s (length ps) plan c o
      → OrMemory (λ cost. cost) (ChecksSubmitted kind conflict portal staging s c) o
  plan_checked plan ps o emission checks = go o (inr (plan, ps, emission, checks))
    where
      go : (p : Result ℕ PlanFault) → ChecksSubmitted kind conflict portal staging s c p → OrMemory (λ cost. cost) (ChecksSubmitted kind conflict portal staging s c) p
      go (Ok cost) h = h
      go (Err fault) h = inr h

-- bytes are the emission of one plan and its pieces
module _ (P : Type 0) (kind : Kind P) (are : AreEntries kind.spelling kind.keeps) (portal staging : List ℕ) (s : Limits) where
  pub same_emission : (plan plan' : Plan) (ps ps' : List P) → IsEmissionAs kind s portal staging plan ps → IsEmissionAs kind s portal staging plan' ps' → (plan ≡ plan') × (ps ≡ ps')
  same_emission plan plan' ps ps' e e' =
      one_emission_by P kind are s plan plan' ps ps' e.can_be e'.can_be (sym e.portal_is ∙ e'.portal_is) (sym e.staging_is ∙ e'.staging_is)

  pub no_fault : (plan : Plan) (ps : List P) (fault : EmissionFault) → IsEmissionAs kind s portal staging plan ps → (fault ≡ EmissionMemory → ⊥) → IsFirstEmissionFaultAs kind s portal staging fault → ⊥
  no_fault plan ps fault emission other first = none_to_tell P kind are s portal staging plan ps fault emission other first

module _ (P : Type 0) (kind : Kind P) (are : AreEntries kind.spelling kind.keeps) (conflict : List P → ℕ → ℕ → Type 0) (portal staging : List ℕ) (s : Limits) (c : Contents) where
  -- what checking says of bytes that submit a plan it says of the plan
  pub said_of_plan : (plan : Plan) (ps : List P) (o : Result ℕ PlanFault) → IsEmissionAs kind s portal staging plan ps → ChecksSubmitted kind conflict portal staging s c o
      → ChecksPlanBy (conflict ps) s (length ps) plan c o
  said_of_plan plan ps o emission (inl (fault, other, first, is)) = absurd (no_fault P kind are portal staging s plan ps fault emission other first)
  said_of_plan plan ps o emission (inr (plan', ps', emission', checks)) =
      let same = same_emission P kind are portal staging s plan plan' ps ps' emission emission' in
      subst (λ (xs : List P). ChecksPlanBy (conflict xs) s (length xs) plan c o) (sym same.1) (subst (λ (x : Plan). ChecksPlanBy (conflict ps') s (length ps') x c o) (sym same.0) checks)

  pub one_submitted : (o p : Result ℕ PlanFault) → ChecksSubmitted kind conflict portal staging s c o → ChecksSubmitted kind conflict portal staging s c p → o ≡ p
  one_submitted o p (inl (f, nf, first, is)) (inl (g, ng, first', is')) =
      is ∙ ap (λ (x : EmissionFault). Err (Emission x)) (one_fault P kind are s portal staging f g nf ng first first') ∙ sym is'
  one_submitted o p (inl (f, nf, first, is)) (inr (plan, ps, emission, checks)) = absurd (no_fault P kind are portal staging s plan ps f emission nf first)
  one_submitted o p (inr (plan, ps, emission, checks)) other = one_checked_by (conflict ps) s (length ps) plan c o p checks (said_of_plan plan ps p emission other)

  -- if it answers, the plan of the bytes is least
  pub shown_least : (r : Result ℕ PlanFault) → OrMemory (λ cost. cost) (ChecksSubmitted kind conflict portal staging s c) r → (plan : Plan) (ps : List P) → IsEmissionAs kind s portal staging plan ps → IsOk r
      → IsLeast (conflict ps) s.greatest_batch (tariff_of s) (length ps) plan
  shown_least (Err fault) h plan ps emission ok = cc
  shown_least (Ok cost) told plan ps emission ok =
      let shown = said_of_plan plan ps (Ok cost) emission told in
      yes_means_least (conflict ps) s.greatest_batch (tariff_of s) (length ps) plan c.prices c.pairs cost shown.legal shown.good shown.is_cost

-- ---- descriptors

-- an emission of descriptors is one of pieces of their kind
pub descriptors_emission : (s : Limits) (portal staging : List ℕ) (plan : Plan) (ds : List Descriptor) → IsEmission s portal staging plan ds → IsEmissionAs descriptors s portal staging plan ds
descriptors_emission s portal staging plan ds emission = emission_as s portal staging plan ds emission

pub one_checked : OneChecked
one_checked portal staging s c = one_submitted Descriptor descriptors are_entries DescriptorConflictAt portal staging s c
