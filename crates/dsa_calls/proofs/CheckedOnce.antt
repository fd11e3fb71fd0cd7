-- Checking a plan has one outcome.
use Rattle.std.proofs.Common.{◌≡◌, ℕ, List, [], length, map, Result, Ok, Err, sym, ap, subst, ◌∙◌}
use Rattle.std.proofs.lemmas.List.{length-map}
use Rattle.dsa_descriptor.specs.declared.descriptor.Descriptor.{Descriptor}
use Rattle.dsa_descriptor.specs.Fields.{Fields}
use Rattle.dsa_descriptor.specs.Descriptors.{fields}
use Rattle.dsa_ranges.specs.Ranges.{ConflictAt}
use Rattle.dsa_settings.specs.Barriers.{WithBarriers}
use Rattle.dsa_settings.specs.Settings.{Limits, tariff_of, version_of}
use Rattle.dsa_settings.specs.Plan.{Plan, plan_cost}
use Rattle.dsa_settings.specs.Legal.{IsLegal}
use Rattle.dsa_plan.specs.Certificate.{IsGood, Contents}
use Rattle.dsa_checker.specs.declared.fault.CheckFault.{CheckFault}
use Rattle.dsa_checker.specs.Checked.{IsFirstCheckFault}
use Rattle.dsa_checker.proofs.Answered.{yes_has_no_fault, one_check_fault}
use Rattle.dsa_calls.specs.declared.fault.PlanFault.{PlanFault}
use Rattle.dsa_calls.specs.declared.fault.PlanFault.TheVariants.{Check}
use Rattle.dsa_calls.specs.Checked.{IsShownLeastBy, ChecksPlan, ChecksPlanBy}

-- a plan and a certificate have one outcome, whichever pieces conflict
module _ (C : ℕ → ℕ → Type 0) (s : Limits) (n : ℕ) (plan : Plan) (c : Contents) where
  -- what a yes says, in the checker's words
  held_of : (cost : ℕ) → IsShownLeastBy C s n plan c cost
      → IsLegal C s.greatest_batch n plan × (c.version ≡ version_of s) × IsGood C s.greatest_batch (tariff_of s) n c.prices c.pairs cost × (cost ≡ plan_cost (tariff_of s) plan)
  held_of cost h = (h.legal, h.version, h.good, h.is_cost)

  not_both : (cost : ℕ) (f : CheckFault) → IsShownLeastBy C s n plan c cost → IsFirstCheckFault C s.greatest_batch (tariff_of s) (version_of s) n plan c f → ⊥
  not_both cost f h first = yes_has_no_fault C s.greatest_batch (tariff_of s) (version_of s) n plan c cost (held_of cost h) f first

  pub one_checked_by : (o p : Result ℕ PlanFault) → ChecksPlanBy C s n plan c o → ChecksPlanBy C s n plan c p → o ≡ p
  one_checked_by (Ok cost) (Ok cost') h k = ap Ok (h.is_cost ∙ sym k.is_cost)
  one_checked_by (Ok cost) (Err cause) h (f, is, first) = absurd (not_both cost f h first)
  one_checked_by (Err cause) (Ok cost) (f, is, first) k = absurd (not_both cost f k first)
  one_checked_by (Err cause) (Err other) (f, is, first) (g, is', first') =
      ap Err (is ∙ ap Check (one_check_fault C s.greatest_batch (tariff_of s) (version_of s) n plan c f g first first') ∙ sym is')

pub one_plan_checked : (s : Limits) (fs : List Fields) (plan : Plan) (c : Contents) (o p : Result ℕ PlanFault) → ChecksPlan s fs plan c o → ChecksPlan s fs plan c p → o ≡ p
one_plan_checked s fs plan c o p h k = one_checked_by (ConflictAt fs) s (length fs) plan c o p h k

-- pieces with no marks are checked as pieces without barriers
pub plain_by : (C : ℕ → ℕ → Type 0) (s : Limits) (n : ℕ) (plan : Plan) (c : Contents) (o : Result ℕ PlanFault) → ChecksPlanBy (WithBarriers C []) s n plan c o → ChecksPlanBy C s n plan c o
unfolding WithBarriers
plain_by C s n plan c o checks = checks

-- what is said of descriptors is said of their fields
pub fields_checked : (s : Limits) (ds : List Descriptor) (plan : Plan) (c : Contents) (o : Result ℕ PlanFault) → ChecksPlanBy (ConflictAt (map fields ds)) s (length ds) plan c o → ChecksPlan s (map fields ds) plan c o
fields_checked s ds plan c o checks = subst (λ (n : ℕ). ChecksPlanBy (ConflictAt (map fields ds)) s n plan c o) (sym (length-map ds fields)) checks

pub checked_fields : (s : Limits) (ds : List Descriptor) (plan : Plan) (c : Contents) (o : Result ℕ PlanFault) → ChecksPlan s (map fields ds) plan c o → ChecksPlanBy (ConflictAt (map fields ds)) s (length ds) plan c o
checked_fields s ds plan c o checks = subst (λ (n : ℕ). ChecksPlanBy (ConflictAt (map fields ds)) s n plan c o) (length-map ds fields) checks

pub plain_checked : (s : Limits) (ds : List Descriptor) (plan : Plan) (c : Contents) (o : Result ℕ PlanFault) → ChecksPlanBy (WithBarriers (ConflictAt (map fields ds)) []) s (length ds) plan c o → ChecksPlan s (map fields ds) plan c o
plain_checked s ds plan c o checks = fields_checked s ds plan c o (plain_by (ConflictAt (map fields ds)) s (length ds) plan c o checks)
