-- Planning and checking lists that may have checksums have one outcome, and the plan is least and accepted.
use Rattle.std.proofs.Common.{◌≡◌, ◌⊎◌, inl, inr, ℕ, Bool, List, length, map, Result, Ok, Err, refl, sym, ap, subst, ◌∙◌}
use Rattle.std.specs.Prelude.{IfOk}
use Rattle.std.proofs.lemmas.List.{length-map}
use Rattle.dsa_descriptor.specs.declared.fault.ListFault.{ListFault}
use Rattle.dsa_descriptor.specs.Descriptors.{fields}
use Rattle.dsa_descriptor.specs.Fences.{barriers_of, unfenced_list}
use Rattle.dsa_descriptor.specs.Fields.{Fields}
use Rattle.dsa_ranges.specs.Ranges.{ConflictAt}
use Rattle.dsa_settings.specs.Barriers.{WithBarriers}
use Rattle.dsa_settings.specs.Plan.{Plan}
use Rattle.dsa_plan.specs.Certificate.{Contents, contents}
use Rattle.dsa_settings.specs.Settings.{Limits}
use Rattle.dsa_calls.specs.declared.checking.FencedFault.{FencedFault}
use Rattle.dsa_calls.specs.declared.checking.FencedFault.TheVariants.{Call}
use Rattle.dsa_calls.specs.declared.fault.PlanFault.{PlanFault}
use Rattle.dsa_calls.specs.declared.fault.PlanFault.TheVariants.{List as InList, Memory}
use Rattle.dsa_calls.specs.Fenced.{AreFencedPieces, JudgesFenced, PlansFenced, PlansWith}
use Rattle.dsa_calls.specs.FencedChecked.{ChecksFenced}
use Rattle.dsa_calls.specs.Judge.{JudgesPiecesBy, sizes_of}
use Rattle.dsa_calls.specs.Lists.{IsOrMemory, OrMemory, OverList}
use Rattle.dsa_calls.specs.Planned.{Submission}
use Rattle.dsa_calls.proofs.FencedChecked.{fenced_plan_is_checked, one_fenced_check}
use Rattle.dsa_calls.proofs.FencedJudged.{one_judged_fenced}
use Rattle.dsa_calls.proofs.FencedPlans.{fenced_plan_is_least, one_fenced_plan}
use Rattle.dsa_calls.proofs.Over.{no_list_fault, only_outcome}
use Rattle.dsa_calls.proofs.PiecesChecked.{only_check, refused_call}
use Rattle.dsa_operations.specs.declared.operation.Operation.{Operation}
use Rattle.dsa_operations.specs.declared.operation.Operation.TheVariants as operation
use Rattle.dsa_lists.specs.declared.submitting.PlannedOperations.{PlannedOperations}
use Rattle.dsa_lists.specs.AnyLists.{ChecksAnyList, HasCostOf, IsAnyPlan, IsLeastOfAnyList, IsOfDescriptors, JudgesAnyList, PlansAnyList, counted, counted_outcome}
use Rattle.dsa_lists.specs.Checking.{ChecksOperationList}
use Rattle.dsa_lists.specs.Submissions.{AreReady, IsOperationSubmission, JudgesOperationList, OperationSubmission, PlansOperationList, operation_submission_of}
use Rattle.dsa_lists.proofs.Ready.{one_operation_check, one_operation_judge, one_operation_plan, operation_plan_is_checked, operation_plan_is_least}

-- ---- lists of descriptors

-- of a call over descriptors, which has no such fault itself, a fault of the bytes says that they are no list of descriptors
no_list_of : {X : Type 0} (Says : List Fields → Result X PlanFault → Type 0) (bytes : List ℕ) (fault : ListFault) → ((fs : List Fields) → Says fs (Err (InList fault)) → ⊥)
    → OverList Says (unfenced_list bytes) (Err (InList fault)) → ¬ IsOfDescriptors bytes
no_list_of Says bytes fault none (inl (cause, other, first, is)) (ds, listed) = no_list_fault (unfenced_list bytes) ds cause listed other first
no_list_of Says bytes fault none (inr (es, listed, says)) told = none (map fields es) says

-- and each other outcome, that they are one
list_of : {X : Type 0} (Says : List Fields → Result X PlanFault → Type 0) (bytes : List ℕ) (o : Result X PlanFault) → ((cause : ListFault) → o ≡ Err (InList cause) → ⊥)
    → OverList Says (unfenced_list bytes) o → IsOfDescriptors bytes
list_of Says bytes o other (inl (cause, nm, first, is)) = absurd (other cause is)
list_of Says bytes o other (inr (ds, listed, says)) = (ds, listed)

-- of planning
pub no_descriptors : (bytes : List ℕ) (s : Limits) (fault : ListFault) → PlansFenced bytes s (Err (InList fault)) → ¬ IsOfDescriptors bytes
no_descriptors bytes s fault = no_list_of (λ fs o. PlansWith (barriers_of bytes) s fs o) bytes fault (λ fs (cause, other, first, is). cc)

pub of_planned : (bytes : List ℕ) (s : Limits) (o : Result Submission PlanFault) → ((cause : ListFault) → o ≡ Err (InList cause) → ⊥) → PlansFenced bytes s o → IsOfDescriptors bytes
of_planned bytes s o other = list_of (λ fs r. PlansWith (barriers_of bytes) s fs r) bytes o other

-- of judging
not_judged : (C : ℕ → ℕ → Type 0) (sizes : List ℕ) (plan : Plan) (s : Limits) (fault : ListFault) → JudgesPiecesBy C sizes plan s (Err (InList fault)) → ⊥
not_judged C sizes plan s fault (inl (is, many)) = cc
not_judged C sizes plan s fault (inr (inl (i, is, few, over))) = cc
not_judged C sizes plan s fault (inr (inr (cause, is, few, fit, first))) = cc

no_descriptors_judged : (bytes : List ℕ) (plan : Plan) (s : Limits) (fault : ListFault) → JudgesFenced bytes plan s (Err (InList fault)) → ¬ IsOfDescriptors bytes
no_descriptors_judged bytes plan s fault =
    no_list_of (λ fs o. JudgesPiecesBy (WithBarriers (ConflictAt fs) (barriers_of bytes)) (sizes_of fs) plan s o) bytes fault
    (λ fs. not_judged (WithBarriers (ConflictAt fs) (barriers_of bytes)) (sizes_of fs) plan s fault)

of_judged : (bytes : List ℕ) (plan : Plan) (s : Limits) (o : Result ℕ PlanFault) → ((cause : ListFault) → o ≡ Err (InList cause) → ⊥) → JudgesFenced bytes plan s o → IsOfDescriptors bytes
of_judged bytes plan s o other = list_of (λ fs r. JudgesPiecesBy (WithBarriers (ConflictAt fs) (barriers_of bytes)) (sizes_of fs) plan s r) bytes o other

-- the same of checking
pub no_descriptors_checked : (bytes portal staging : List ℕ) (s : Limits) (c : Contents) (fault : ListFault) → ChecksFenced bytes portal staging s c (Err (Call (InList fault)))
    → ¬ IsOfDescriptors bytes
no_descriptors_checked bytes portal staging s c fault (inl (cause, refused, is)) told =
    let same : cause ≡ InList fault = cc in
    no_descriptors bytes s fault (subst (λ (x : PlanFault). PlansFenced bytes s (Err x)) same refused) told
no_descriptors_checked bytes portal staging s c fault (inr (ops, ds, listed, split, are, inl (cause, other, first, is))) told = cc
no_descriptors_checked bytes portal staging s c fault (inr (ops, ds, listed, split, are, inr (inl (i, plan, ps, emission, other, is)))) told = cc
no_descriptors_checked bytes portal staging s c fault (inr (ops, ds, listed, split, are, inr (inr (Ok cost, plan, emission, shown, is)))) told = cc
no_descriptors_checked bytes portal staging s c fault (inr (ops, ds, listed, split, are, inr (inr (Err cause, plan, emission, (f, named, first), is)))) told = cc

pub of_checked : (bytes portal staging : List ℕ) (s : Limits) (c : Contents) (o : Result ℕ FencedFault) → ((cause : ListFault) → o ≡ Err (Call (InList cause)) → ⊥)
    → ChecksFenced bytes portal staging s c o → IsOfDescriptors bytes
of_checked bytes portal staging s c o other (inl (fault, refused, is)) =
    of_planned bytes s (Err fault) (λ cause e. let same : fault ≡ InList cause = cc in other cause (is ∙ ap refused_call same)) refused
of_checked bytes portal staging s c o other (inr (ops, ds, listed, split, are, checks)) = (ops, listed)

-- ---- one outcome

pub one_any_plan : (bytes : List ℕ) (s : Limits) (o p : Result OperationSubmission PlanFault) → PlansAnyList bytes s o → PlansAnyList bytes s p → o ≡ p
one_any_plan bytes s o p (inl (of, (a, plans, is))) (inl (of', (b, plans', is'))) = is ∙ ap counted_outcome (one_fenced_plan bytes s a b plans plans') ∙ sym is'
one_any_plan bytes s o p (inl (of, (a, plans, is))) (inr (none, plans')) = absurd (none of)
one_any_plan bytes s o p (inr (none, plans)) (inl (of, (b, plans', is))) = absurd (none of)
one_any_plan bytes s o p (inr (none, plans)) (inr (none', plans')) = one_operation_plan bytes s o p plans plans'

pub one_any_check : (bytes portal staging : List ℕ) (s : Limits) (c : Contents) (o p : Result ℕ FencedFault) → ChecksAnyList bytes portal staging s c o → ChecksAnyList bytes portal staging s c p → o ≡ p
one_any_check bytes portal staging s c o p (inl (of, checks)) (inl (of', checks')) = one_fenced_check bytes portal staging s c o p checks checks'
one_any_check bytes portal staging s c o p (inl (of, checks)) (inr (none, checks')) = absurd (none of)
one_any_check bytes portal staging s c o p (inr (none, checks)) (inl (of, checks')) = absurd (none of)
one_any_check bytes portal staging s c o p (inr (none, checks)) (inr (none', checks')) = one_operation_check bytes portal staging s c o p checks checks'

-- ---- what planning answers

pub any_plan_is_checked : (bytes : List ℕ) (s : Limits) (p : OperationSubmission) → PlansAnyList bytes s (Ok p) → ChecksAnyList bytes p.portal p.staging s p.certificate (Ok p.cost)
any_plan_is_checked bytes s p (inl (of, (Ok q, plans, is))) =
    let same : p ≡ counted q = cc in
    rw same (inl (of, fenced_plan_is_checked bytes s q plans))
any_plan_is_checked bytes s p (inl (of, (Err fault, plans, is))) = cc
any_plan_is_checked bytes s p (inr (none, plans)) = inr (none, operation_plan_is_checked bytes s p plans)

pub any_plan_is_least : (bytes : List ℕ) (s : Limits) (p : OperationSubmission) → PlansAnyList bytes s (Ok p) → IsLeastOfAnyList bytes s p
any_plan_is_least bytes s p (inl (of, (Ok q, plans, is))) =
    let same : p ≡ counted q = cc in
    inl (q, fenced_plan_is_least bytes s q plans, same)
any_plan_is_least bytes s p (inl (of, (Err fault, plans, is))) = cc
any_plan_is_least bytes s p (inr (none, plans)) = inr (operation_plan_is_least bytes s p plans)

-- ---- answers of planning

module _ (bytes : List ℕ) (s : Limits) where
  -- of a list of descriptors
  pub planned_any : (q : Submission) → PlansFenced bytes s (Ok q) → PlansAnyList bytes s (Ok (counted q))
  planned_any q plans = inl (of_planned bytes s (Ok q) (λ cause e. cc) plans, (Ok q, plans, refl))

  pub refused_any : (fault : PlanFault) → ((cause : ListFault) → fault ≡ InList cause → ⊥) → (fault ≡ Memory) ⊎ PlansFenced bytes s (Err fault)
      → (fault ≡ Memory) ⊎ PlansAnyList bytes s (Err fault)
  refused_any fault other (inl memory) = inl memory
  refused_any fault other (inr refused) =
      inr (inl (of_planned bytes s (Err fault) (λ cause e. let same : fault ≡ InList cause = cc in other cause same) refused, (Err fault, refused, refl)))

  -- the bytes are no list of descriptors
  pub none_planned : (fault : PlanFault) → (cause : ListFault) × (fault ≡ InList cause) → (fault ≡ Memory) ⊎ PlansFenced bytes s (Err fault) → ¬ IsOfDescriptors bytes
  none_planned fault (cause, is) (inl memory) of = let no_one : Memory ≡ InList cause = sym memory ∙ is in cc
  none_planned fault (cause, is) (inr refused) of = no_descriptors bytes s cause (subst (λ (x : PlanFault). PlansFenced bytes s (Err x)) is refused) of

  pub or_any : ¬ IsOfDescriptors bytes → (r : Result PlannedOperations PlanFault) → OrMemory operation_submission_of (PlansOperationList bytes s) r
      → OrMemory operation_submission_of (PlansAnyList bytes s) r
  or_any none (Ok p) plans = inr (none, plans)
  or_any none (Err fault) (inl memory) = inl memory
  or_any none (Err fault) (inr plans) = inr (inr (none, plans))

  -- the pieces that were planned
  pub fenced_any : (q : Submission) (barriers : List Bool) (pieces : List Operation) → PlansFenced bytes s (Ok q) → AreFencedPieces bytes s q.pieces barriers → pieces ≡ map operation.Descriptor q.pieces
      → IsAnyPlan bytes s pieces barriers q.plan
  fenced_any q barriers pieces plans are is = record {
    are_pieces = inl (of_planned bytes s (Ok q) (λ cause e. cc) plans, (q.pieces, are, is));
    submission = counted q;
    planned = planned_any q plans;
    count = sym (ap length is ∙ length-map q.pieces operation.Descriptor);
    plan_is = refl;
  }

  pub ready_any : ¬ IsOfDescriptors bytes → (operations : List Operation) (barriers : List Bool) (p : OperationSubmission) → AreReady bytes s operations → barriers ≡ barriers_of bytes
      → IsOperationSubmission s operations barriers p → IsAnyPlan bytes s operations barriers p.plan
  ready_any none operations barriers p ready is sub = record {
    are_pieces = inr (none, (ready, is));
    submission = p;
    planned = inr (none, inr (operations, ready.spelt, ready.owner, subst (λ (marks : List Bool). IsOperationSubmission s operations marks p) is sub));
    count = sub.pieces_are;
    plan_is = refl;
  }

  -- and their cost
  pub fenced_cost : (q : Submission) → PlansFenced bytes s (Ok q) → HasCostOf bytes s q.cost
  fenced_cost q plans = (counted q, planned_any q plans, refl)

  pub ready_cost : ¬ IsOfDescriptors bytes → (operations : List Operation) (barriers : List Bool) (p : OperationSubmission) → AreReady bytes s operations → barriers ≡ barriers_of bytes
      → IsOperationSubmission s operations barriers p → HasCostOf bytes s p.cost
  unfolding ready_any
  ready_cost none operations barriers p ready is sub =
      let plan = ready_any none operations barriers p ready is sub in
      (plan.submission, plan.planned, refl)

  pub refused_of_operations : ¬ IsOfDescriptors bytes → (fault : PlanFault) → (fault ≡ Memory) ⊎ PlansOperationList bytes s (Err fault) → (fault ≡ Memory) ⊎ PlansAnyList bytes s (Err fault)
  refused_of_operations none fault (inl memory) = inl memory
  refused_of_operations none fault (inr refused) = inr (inr (none, refused))

  -- what is answered is the one outcome, least and accepted
  pub only_any : (r : Result PlannedOperations PlanFault) → OrMemory operation_submission_of (PlansAnyList bytes s) r → (o : Result OperationSubmission PlanFault) → PlansAnyList bytes s o
      → IsOrMemory operation_submission_of o r
  only_any r told = only_outcome operation_submission_of (PlansAnyList bytes s) (one_any_plan bytes s) r told

  pub least_any : (r : Result PlannedOperations PlanFault) → OrMemory operation_submission_of (PlansAnyList bytes s) r → IfOk r (λ p. IsLeastOfAnyList bytes s (operation_submission_of p))
  least_any (Ok p) told = any_plan_is_least bytes s (operation_submission_of p) told
  least_any (Err fault) told = tt

  pub checks_any : (r : Result PlannedOperations PlanFault) → OrMemory operation_submission_of (PlansAnyList bytes s) r
      → IfOk r (λ p. ChecksAnyList bytes p.emission.portal.items p.emission.staging.items s (contents p.certificate) (Ok p.cost))
  checks_any (Ok p) told = any_plan_is_checked bytes s (operation_submission_of p) told
  checks_any (Err fault) told = tt

-- ---- answers of checking

module _ (bytes portal staging : List ℕ) (s : Limits) (c : Contents) where
  -- of a list of descriptors
  pub checked_any : (r : Result ℕ FencedFault) → ((cause : ListFault) → r ≡ Err (Call (InList cause)) → ⊥) → (r ≡ refused_call Memory) ⊎ ChecksFenced bytes portal staging s c r
      → (r ≡ refused_call Memory) ⊎ ChecksAnyList bytes portal staging s c r
  checked_any r other (inl memory) = inl memory
  checked_any r other (inr checks) = inr (inl (of_checked bytes portal staging s c r other checks, checks))

  -- the bytes are no list of descriptors
  pub none_checked : (fault : PlanFault) → (cause : ListFault) × (fault ≡ InList cause) → (refused_call fault ≡ refused_call Memory) ⊎ ChecksFenced bytes portal staging s c (refused_call fault)
      → ¬ IsOfDescriptors bytes
  none_checked fault (cause, is) (inl memory) of = let no_one : refused_call Memory ≡ refused_call (InList cause) = sym memory ∙ ap refused_call is in cc
  none_checked fault (cause, is) (inr checks) of =
      no_descriptors_checked bytes portal staging s c cause (subst (λ (x : PlanFault). ChecksFenced bytes portal staging s c (refused_call x)) is checks) of

  pub any_of_operations : ¬ IsOfDescriptors bytes → (r : Result ℕ FencedFault) → (r ≡ refused_call Memory) ⊎ ChecksOperationList bytes portal staging s c r
      → (r ≡ refused_call Memory) ⊎ ChecksAnyList bytes portal staging s c r
  any_of_operations none r (inl memory) = inl memory
  any_of_operations none r (inr checks) = inr (inr (none, checks))

  -- what is answered is the one outcome
  pub only_any_check : (r : Result ℕ FencedFault) → (r ≡ refused_call Memory) ⊎ ChecksAnyList bytes portal staging s c r → (o : Result ℕ FencedFault) → ChecksAnyList bytes portal staging s c o
      → (r ≡ refused_call Memory) ⊎ (r ≡ o)
  only_any_check r told = only_check (ChecksAnyList bytes portal staging s c) (one_any_check bytes portal staging s c) r told

-- ---- answers of judging

module _ (bytes : List ℕ) (plan : Plan) (s : Limits) where
  one_any_judge : (o p : Result ℕ PlanFault) → JudgesAnyList bytes plan s o → JudgesAnyList bytes plan s p → o ≡ p
  one_any_judge o p (inl (of, judges)) (inl (of', judges')) = one_judged_fenced bytes plan s o p judges judges'
  one_any_judge o p (inl (of, judges)) (inr (none, judges')) = absurd (none of)
  one_any_judge o p (inr (none, judges)) (inl (of, judges')) = absurd (none of)
  one_any_judge o p (inr (none, judges)) (inr (none', judges')) = one_operation_judge bytes plan s o p judges judges'

  -- of a list of descriptors
  pub judged_any : (r : Result ℕ PlanFault) → ((cause : ListFault) → r ≡ Err (InList cause) → ⊥) → OrMemory (λ cost. cost) (JudgesFenced bytes plan s) r
      → OrMemory (λ cost. cost) (JudgesAnyList bytes plan s) r
  judged_any (Ok cost) other judges = inl (of_judged bytes plan s (Ok cost) other judges, judges)
  judged_any (Err fault) other (inl memory) = inl memory
  judged_any (Err fault) other (inr judges) = inr (inl (of_judged bytes plan s (Err fault) other judges, judges))

  -- the bytes are no list of descriptors
  pub none_judged : (fault : PlanFault) → (cause : ListFault) × (fault ≡ InList cause) → (fault ≡ Memory) ⊎ JudgesFenced bytes plan s (Err fault) → ¬ IsOfDescriptors bytes
  none_judged fault (cause, is) (inl memory) of = let no_one : Memory ≡ InList cause = sym memory ∙ is in cc
  none_judged fault (cause, is) (inr refused) of = no_descriptors_judged bytes plan s cause (subst (λ (x : PlanFault). JudgesFenced bytes plan s (Err x)) is refused) of

  pub or_any_judged : ¬ IsOfDescriptors bytes → (r : Result ℕ PlanFault) → OrMemory (λ cost. cost) (JudgesOperationList bytes plan s) r → OrMemory (λ cost. cost) (JudgesAnyList bytes plan s) r
  or_any_judged none (Ok cost) judges = inr (none, judges)
  or_any_judged none (Err fault) (inl memory) = inl memory
  or_any_judged none (Err fault) (inr judges) = inr (inr (none, judges))

  -- what is answered is the one outcome
  pub only_any_judge : (r : Result ℕ PlanFault) → OrMemory (λ cost. cost) (JudgesAnyList bytes plan s) r → (o : Result ℕ PlanFault) → JudgesAnyList bytes plan s o → IsOrMemory (λ cost. cost) o r
  only_any_judge r told = only_outcome (λ cost. cost) (JudgesAnyList bytes plan s) one_any_judge r told
