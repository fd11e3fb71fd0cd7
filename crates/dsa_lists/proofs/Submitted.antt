-- Planning operations has one outcome, whose plan is least.
use Rattle.std.proofs.Common.{◌≡◌, inl, inr, ℕ, Bool, List, length, map, Result, Ok, Err, sym, ap, subst, ◌∙◌, arith}
use Rattle.std.specs.Prelude.{slice_index}
use Rattle.dsa_settings.specs.Settings.{Limits, tariff_of}
use Rattle.dsa_settings.specs.Plan.{Plan, plan_cost}
use Rattle.dsa_settings.specs.Barriers.{WithBarriers}
use Rattle.dsa_settings.specs.Legal.{IsLeast}
use Rattle.dsa_plan.specs.Certificate.{IsGood}
use Rattle.dsa_emission.specs.Emission.{portal_of, staging_of}
use Rattle.dsa_splitter.specs.declared.fault.SplitFault.TheVariants.{StagingMeets}
use Rattle.dsa_search.proofs.Choosing.{chosen_is_good, chosen_is_least}
use Rattle.dsa_search.proofs.Unique.{one_chosen}
use Rattle.dsa_calls.specs.declared.fault.PlanFault.{PlanFault}
use Rattle.dsa_calls.specs.declared.fault.PlanFault.TheVariants.{OverTransfer, Split}
use Rattle.dsa_calls.specs.Lists.{IsOrMemory, OrMemory}
use Rattle.dsa_calls.proofs.JudgedOnce.{none_over, one_over}
use Rattle.dsa_calls.proofs.Over.{only_outcome}
use Rattle.dsa_operations.specs.declared.operation.Operation.{Operation}
use Rattle.dsa_lists.specs.declared.submitting.PlannedOperations.{PlannedOperations}
use Rattle.dsa_operations.specs.Operations.{OperationConflictAt, size_of, spelling_of}
use Rattle.dsa_lists.specs.Submissions.{area_of, operation_submission_of, CanBeSubmitted, IsOperationSubmission, TouchesArea, OperationSubmission, PlansEntries}
use Rattle.dsa_lists.proofs.First.{none_first, one_first}

-- ---- one outcome

same_submission : (p q : OperationSubmission) → p.pieces ≡ q.pieces → p.plan ≡ q.plan → p.certificate.version ≡ q.certificate.version → p.certificate.prices ≡ q.certificate.prices
    → p.certificate.pairs ≡ q.certificate.pairs → p.cost ≡ q.cost → p.portal ≡ q.portal → p.staging ≡ q.staging → p ≡ q
same_submission p q n a b c d e f g =
    λ i. record { pieces = n i; plan = a i; certificate = record { version = b i; prices = c i; pairs = d i }; cost = e i; portal = f i; staging = g i }

module _ (s : Limits) (operations : List Operation) (barriers : List Bool) where
  abbrev pub Conflict : ℕ → ℕ → Type 0
  Conflict = WithBarriers (OperationConflictAt operations) barriers

  one_submission : (p q : OperationSubmission) → IsOperationSubmission s operations barriers p → IsOperationSubmission s operations barriers q → p ≡ q
  one_submission p q h k =
      let same = one_chosen Conflict s.greatest_batch (tariff_of s) (length operations) p.certificate.prices q.certificate.prices p.certificate.pairs q.certificate.pairs p.plan q.plan h.chosen k.chosen in
      same_submission p q (h.pieces_are ∙ sym k.pieces_are) same.2 (h.version_is ∙ sym k.version_is) same.0 same.1
      (h.cost_is ∙ ap (plan_cost (tariff_of s)) same.2 ∙ sym k.cost_is)
      (h.portal_is ∙ ap (λ (x : Plan). portal_of spelling_of s x operations) same.2 ∙ sym k.portal_is)
      (h.staging_is ∙ ap (λ (x : Plan). staging_of spelling_of x operations) same.2 ∙ sym k.staging_is)

  -- what can be submitted is not refused
  pub not_refused : (cause : PlanFault) → CanBeSubmitted s operations → PlansEntries s operations barriers (Err cause) → ⊥
  not_refused cause can (inl (is, many)) = omega (arith, can.few, many)
  not_refused cause can (inr (inl (i, is, few, first))) = none_over s.greatest_transfer (map size_of operations) i can.short first
  not_refused cause can (inr (inr (i, is, few, short, first))) = none_first (TouchesArea (area_of s operations)) operations i can.clear first

  -- what is refused is refused for one cause
  pub one_refusal : (f g : PlanFault) → PlansEntries s operations barriers (Err f) → PlansEntries s operations barriers (Err g) → f ≡ g
  one_refusal f g (inl (is, many)) (inl (is', many')) = is ∙ sym is'
  one_refusal f g (inl (is, many)) (inr (inl (j, is', few', first'))) = absurd (omega (arith, many, few'))
  one_refusal f g (inl (is, many)) (inr (inr (j, is', few', short', first'))) = absurd (omega (arith, many, few'))
  one_refusal f g (inr (inl (i, is, few, first))) (inl (is', many')) = absurd (omega (arith, many', few))
  one_refusal f g (inr (inl (i, is, few, first))) (inr (inl (j, is', few', first'))) =
      is ∙ ap OverTransfer (one_over s.greatest_transfer (map size_of operations) i j first first') ∙ sym is'
  one_refusal f g (inr (inl (i, is, few, first))) (inr (inr (j, is', few', short', first'))) =
      absurd (none_over s.greatest_transfer (map size_of operations) i short' first)
  one_refusal f g (inr (inr (i, is, few, short, first))) (inl (is', many')) = absurd (omega (arith, many', few))
  one_refusal f g (inr (inr (i, is, few, short, first))) (inr (inl (j, is', few', first'))) =
      absurd (none_over s.greatest_transfer (map size_of operations) j short first')
  one_refusal f g (inr (inr (i, is, few, short, first))) (inr (inr (j, is', few', short', first'))) =
      is ∙ ap (λ (k : ℕ). Split (StagingMeets k)) (one_first (TouchesArea (area_of s operations)) operations i j first first') ∙ sym is'

  pub one_plan : (o p : Result OperationSubmission PlanFault) → PlansEntries s operations barriers o → PlansEntries s operations barriers p → o ≡ p
  one_plan (Ok p) (Ok q) h k = ap Ok (one_submission p q h k)
  one_plan (Ok p) (Err g) h k = absurd (not_refused g h.can k)
  one_plan (Err f) (Ok q) h k = absurd (not_refused f k.can h)
  one_plan (Err f) (Err g) h k = ap Err (one_refusal f g h k)

  -- an answer that is an outcome, or an allocation failure, is the one outcome, or an allocation failure
  pub only_answer : (r : Result PlannedOperations PlanFault) → OrMemory operation_submission_of (PlansEntries s operations barriers) r
      → (o : Result OperationSubmission PlanFault) → PlansEntries s operations barriers o → IsOrMemory operation_submission_of o r
  only_answer r told = only_outcome operation_submission_of (PlansEntries s operations barriers) one_plan r told

  -- ---- least

  least_cost : (p : OperationSubmission) → IsOperationSubmission s operations barriers p
      → IsLeast Conflict s.greatest_batch (tariff_of s) (length operations) p.plan × (plan_cost (tariff_of s) p.plan ≡ slice_index p.certificate.prices (length operations))
  least_cost p h = chosen_is_least Conflict s.greatest_batch (tariff_of s) (length operations) p.certificate.prices p.certificate.pairs p.plan h.chosen

  pub is_least : (p : OperationSubmission) → IsOperationSubmission s operations barriers p → IsLeast Conflict s.greatest_batch (tariff_of s) (length operations) p.plan
  is_least p h = (least_cost p h).0

  pub is_good : (p : OperationSubmission) → IsOperationSubmission s operations barriers p
      → IsGood Conflict s.greatest_batch (tariff_of s) (length operations) p.certificate.prices p.certificate.pairs p.cost
  is_good p h =
      let good = chosen_is_good Conflict s.greatest_batch (tariff_of s) (length operations) p.certificate.prices p.certificate.pairs h.chosen.has_costs h.chosen.has_pairs in
      subst (λ (w : ℕ). IsGood Conflict s.greatest_batch (tariff_of s) (length operations) p.certificate.prices p.certificate.pairs w) (sym (least_cost p h).1 ∙ sym h.cost_is) good
