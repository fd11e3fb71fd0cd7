-- Lists of operations that are ready to be submitted; planning them answers what checking accepts.
use Rattle.std.proofs.Common.{◌≡◌, ◌⊎◌, inl, inr, ℕ, Bool, List, length, map, get_or, Result, Ok, Err, sym, ap, subst, ◌∙◌}
use Rattle.std.specs.Prelude.{IfOk, option_map}
use Rattle.std.specs.List.{flat_map}
use Rattle.std.proofs.lemmas.Option.{slice_get-get_or, slice_get-map}
use Rattle.dsa_descriptor.specs.declared.fault.ListFault.{ListFault}
use Rattle.dsa_descriptor.specs.declared.fault.ListFault.TheVariants.{Memory as ListMemory}
use Rattle.dsa_descriptor.specs.Fences.{barriers_of, unfenced_list}
use Rattle.dsa_descriptor.specs.Lists.{AreOfOneOwner, IsFirstFaultBy}
use Rattle.dsa_descriptor.proofs.Entries.{first_by_is_one, one_entries_spelling, sound_by, sound_or_fault_by}
use Rattle.dsa_settings.specs.Barriers.{WithBarriers}
use Rattle.dsa_plan.specs.Certificate.{Contents}
use Rattle.dsa_emission.specs.EmissionFaults.{IsEmissionAs}
use Rattle.dsa_emission.specs.Emission.{CanBeEmittedAs}
use Rattle.dsa_settings.specs.Legal.{IsLegal}
use Rattle.dsa_settings.specs.Plan.{Plan}
use Rattle.dsa_settings.specs.Settings.{Limits}
use Rattle.dsa_calls.specs.declared.checking.FencedFault.{FencedFault}
use Rattle.dsa_calls.specs.declared.fault.PlanFault.{PlanFault}
use Rattle.dsa_calls.specs.declared.fault.PlanFault.TheVariants.{List as InList, Memory}
use Rattle.dsa_calls.specs.FencedChecked.{ChecksPieces}
use Rattle.dsa_operations.specs.declared.operation.Operation.{Operation}
use Rattle.dsa_lists.specs.Checking.{ChecksOperationList, IsLeastOperationEmission}
use Rattle.dsa_operations.specs.Faults.{OperationKeeps}
use Rattle.dsa_operations.specs.Operations.{OperationConflictAt, operation_kind, size_of, spelling_of}
use Rattle.dsa_lists.specs.Submissions.{AreReady, CanBeSubmitted, IsLeastOfOperations, IsOperationSubmission, JudgesOperationList, OperationSubmission, OverOperations, PlansEntries, PlansOperationList}
use Rattle.dsa_calls.specs.Judge.{JudgesPiecesBy}
use Rattle.dsa_calls.specs.Lists.{IsOrMemory, OrMemory}
use Rattle.dsa_calls.proofs.Over.{only_outcome}
use Rattle.dsa_calls.proofs.JudgedOnce.{one_judged_by}
use Rattle.dsa_calls.proofs.PiecesChecked.{chosen_checks, least_checked, one_pieces, refused_call, shown_by}
use Rattle.dsa_calls.proofs.Submissions.{legal_shapes}
use Rattle.dsa_operations.proofs.Answered.{are_operations}
use Rattle.dsa_lists.proofs.Submitted.{is_good, is_least, not_refused, one_plan}

-- ---- one list

-- bytes spell one list of operations
pub one_operations : (bytes : List ℕ) (es fs : List Operation) → unfenced_list bytes ≡ flat_map spelling_of es → unfenced_list bytes ≡ flat_map spelling_of fs → fs ≡ es
one_operations bytes es fs e f = one_entries_spelling Operation spelling_of OperationKeeps are_operations fs es (sym f ∙ e)

-- bytes that spell operations of one owner have no fault
pub no_operations_fault : (bytes : List ℕ) (es : List Operation) (fault : ListFault) → unfenced_list bytes ≡ flat_map spelling_of es → AreOfOneOwner spelling_of es → (fault ≡ ListMemory → ⊥)
    → IsFirstFaultBy OperationKeeps (unfenced_list bytes) fault → ⊥
no_operations_fault bytes es fault spelt owner other first =
    sound_or_fault_by OperationKeeps (unfenced_list bytes) fault (sound_by Operation spelling_of OperationKeeps are_operations (unfenced_list bytes) es spelt owner) other first

-- a call over bytes has one outcome, where it has one over operations
pub one_over_operations : {X : Type 0} (Says : List Operation → Result X PlanFault → Type 0) → ((es : List Operation) (o p : Result X PlanFault) → Says es o → Says es p → o ≡ p)
    → (bytes : List ℕ) (o p : Result X PlanFault) → OverOperations Says bytes o → OverOperations Says bytes p → o ≡ p
one_over_operations Says one bytes o p (inl (f, nf, first, is)) (inl (g, ng, first', is')) =
    is ∙ ap (λ (x : ListFault). Err (InList x)) (first_by_is_one OperationKeeps (unfenced_list bytes) f g nf ng first first') ∙ sym is'
one_over_operations Says one bytes o p (inl (f, nf, first, is)) (inr (es, spelt, owner, says)) = absurd (no_operations_fault bytes es f spelt owner nf first)
one_over_operations Says one bytes o p (inr (es, spelt, owner, says)) (inl (g, ng, first, is)) = absurd (no_operations_fault bytes es g spelt owner ng first)
one_over_operations Says one bytes o p (inr (es, spelt, owner, says)) (inr (fs, spelt', owner', says')) =
    let same : fs ≡ es = one_operations bytes es fs spelt spelt' in
    one es o p says (subst (λ (xs : List Operation). Says xs p) same says')

-- planning a list of operations has one outcome
pub one_operation_plan : (bytes : List ℕ) (s : Limits) (o p : Result OperationSubmission PlanFault) → PlansOperationList bytes s o → PlansOperationList bytes s p → o ≡ p
one_operation_plan bytes s o p =
    one_over_operations (λ es r. PlansEntries s es (barriers_of bytes) r) (λ es r q h k. one_plan s es (barriers_of bytes) r q h k) bytes o p

-- and so has judging a plan for one
pub one_operation_judge : (bytes : List ℕ) (plan : Plan) (s : Limits) (o p : Result ℕ PlanFault) → JudgesOperationList bytes plan s o → JudgesOperationList bytes plan s p → o ≡ p
one_operation_judge bytes plan s o p =
    one_over_operations (λ es r. JudgesPiecesBy (WithBarriers (OperationConflictAt es) (barriers_of bytes)) (map size_of es) plan s r)
    (λ es r q h k. one_judged_by (WithBarriers (OperationConflictAt es) (barriers_of bytes)) (map size_of es) plan s r q h k) bytes o p

pub operations_judged : (bytes : List ℕ) (plan : Plan) (s : Limits) (es : List Operation) (barriers : List Bool) (r : Result ℕ PlanFault) → unfenced_list bytes ≡ flat_map spelling_of es
    → AreOfOneOwner spelling_of es → barriers ≡ barriers_of bytes → JudgesPiecesBy (WithBarriers (OperationConflictAt es) barriers) (map size_of es) plan s r
    → OrMemory (λ cost. cost) (JudgesOperationList bytes plan s) r
operations_judged bytes plan s es barriers r spelt owner is judges =
    go r (inr (es, spelt, owner, subst (λ (marks : List Bool). JudgesPiecesBy (WithBarriers (OperationConflictAt es) marks) (map size_of es) plan s r) is judges))
  where
    go : (o : Result ℕ PlanFault) → JudgesOperationList bytes plan s o → OrMemory (λ cost. cost) (JudgesOperationList bytes plan s) o
    go (Ok cost) h = h
    go (Err fault) h = inr h

pub only_operation_judge : (bytes : List ℕ) (plan : Plan) (s : Limits) (r : Result ℕ PlanFault) → OrMemory (λ cost. cost) (JudgesOperationList bytes plan s) r
    → (o : Result ℕ PlanFault) → JudgesOperationList bytes plan s o → IsOrMemory (λ cost. cost) o r
only_operation_judge bytes plan s r told = only_outcome (λ cost. cost) (JudgesOperationList bytes plan s) (one_operation_judge bytes plan s) r told

-- what is ready is not refused
pub ready_not_refused : (bytes : List ℕ) (s : Limits) (operations : List Operation) (fault : PlanFault) → AreReady bytes s operations → PlansOperationList bytes s (Err fault) → ⊥
ready_not_refused bytes s operations fault ready (inl (cause, other, first, is)) =
    sound_or_fault_by OperationKeeps (unfenced_list bytes) cause
    (sound_by Operation spelling_of OperationKeeps are_operations (unfenced_list bytes) operations ready.spelt ready.owner) other first
ready_not_refused bytes s operations fault ready (inr (es, spelt, owner, plans)) =
    let same : es ≡ operations = one_operations bytes operations es ready.spelt spelt in
    let here = subst (λ (xs : List Operation). PlansEntries s xs (barriers_of bytes) (Err fault)) same plans in
    not_refused s operations (barriers_of bytes) fault ready.can here

-- ---- checking has one outcome

pub one_operation_check : (bytes portal staging : List ℕ) (s : Limits) (c : Contents) (o p : Result ℕ FencedFault) → ChecksOperationList bytes portal staging s c o
    → ChecksOperationList bytes portal staging s c p → o ≡ p
one_operation_check bytes portal staging s c o p (inl (f, refused, is)) (inl (g, refused', is')) =
    let same : ◌≡◌ {A = Result OperationSubmission PlanFault} (Err f) (Err g) = one_operation_plan bytes s (Err f) (Err g) refused refused' in
    let fault : f ≡ g = cc in
    is ∙ ap refused_call fault ∙ sym is'
one_operation_check bytes portal staging s c o p (inl (f, refused, is)) (inr (es, ready, checks)) = absurd (ready_not_refused bytes s es f ready refused)
one_operation_check bytes portal staging s c o p (inr (es, ready, checks)) (inl (g, refused, is)) = absurd (ready_not_refused bytes s es g ready refused)
one_operation_check bytes portal staging s c o p (inr (es, ready, checks)) (inr (fs, ready', checks')) =
    let same : fs ≡ es = one_operations bytes es fs ready.spelt ready'.spelt in
    let here = subst (λ (xs : List Operation). ChecksPieces operation_kind (WithBarriers (OperationConflictAt xs) (barriers_of bytes)) s xs portal staging c p) same checks' in
    one_pieces Operation operation_kind are_operations (WithBarriers (OperationConflictAt es) (barriers_of bytes)) s es portal staging c o p checks here

-- ---- what planning answers

can_be_emitted : (s : Limits) (operations : List Operation) (C : ℕ → ℕ → Type 0) (plan : Plan) → CanBeSubmitted s operations → AreOfOneOwner spelling_of operations
    → IsLegal C s.greatest_batch (length operations) plan → CanBeEmittedAs operation_kind s plan operations
can_be_emitted s operations C plan can owner legal = record {
  covers = legal.covers;
  few = can.few;
  shapes = legal_shapes C s (length operations) plan legal;
  one_owner = owner;
  short = λ k o lt. can.short k (size_of (get_or operations k o)) (slice_get-map size_of operations k ∙ ap (option_map size_of) (slice_get-get_or operations k o lt));
  clear = λ k o lt address inside touched. can.clear k (get_or operations k o) (slice_get-get_or operations k o lt) (address, inside, touched);
}

-- the submission of these operations is checked
module _ (bytes : List ℕ) (s : Limits) (operations : List Operation) (p : OperationSubmission) (spelt : unfenced_list bytes ≡ flat_map spelling_of operations)
    (owner : AreOfOneOwner spelling_of operations) (sub : IsOperationSubmission s operations (barriers_of bytes) p) where
  abbrev C : ℕ → ℕ → Type 0
  C = WithBarriers (OperationConflictAt operations) (barriers_of bytes)

  ready : AreReady bytes s operations
  ready = record { spelt = spelt; owner = owner; can = sub.can }

  submission_checks : ChecksOperationList bytes p.portal p.staging s p.certificate (Ok p.cost)
  submission_checks =
      let shown = shown_by C s (length operations) p.plan p.certificate p.cost sub.chosen sub.version_is sub.cost_is in
      let emission : IsEmissionAs operation_kind s p.portal p.staging p.plan operations =
      record { can_be = can_be_emitted s operations C p.plan sub.can owner shown.legal; portal_is = sub.portal_is; staging_is = sub.staging_is } in
      inr (operations, ready, chosen_checks operation_kind C s operations p.portal p.staging p.certificate p.plan p.cost emission shown)

  submission_least : IsLeastOfOperations bytes s p
  submission_least = record {
    operations = operations;
    ready = ready;
    pieces_are = sub.pieces_are;
    least = is_least s operations (barriers_of bytes) p sub;
    good = is_good s operations (barriers_of bytes) p sub;
  }

-- if planning answers, checking what it submits, with its certificate, answers its cost
pub operation_plan_is_checked : (bytes : List ℕ) (s : Limits) (p : OperationSubmission) → PlansOperationList bytes s (Ok p) → ChecksOperationList bytes p.portal p.staging s p.certificate (Ok p.cost)
operation_plan_is_checked bytes s p (inl (fault, other, first, is)) = cc
operation_plan_is_checked bytes s p (inr (operations, spelt, owner, sub)) = submission_checks bytes s operations p spelt owner sub

pub operation_plan_is_least : (bytes : List ℕ) (s : Limits) (p : OperationSubmission) → PlansOperationList bytes s (Ok p) → IsLeastOfOperations bytes s p
operation_plan_is_least bytes s p (inl (fault, other, first, is)) = cc
operation_plan_is_least bytes s p (inr (operations, spelt, owner, sub)) = submission_least bytes s operations p spelt owner sub

-- ---- the answer

-- operations that are ready are checked as those of the list
pub ready_checked : (bytes portal staging : List ℕ) (s : Limits) (c : Contents) (operations : List Operation) (barriers : List Bool) (r : Result ℕ FencedFault) → AreReady bytes s operations
    → barriers ≡ barriers_of bytes → (r ≡ refused_call Memory) ⊎ ChecksPieces operation_kind (WithBarriers (OperationConflictAt operations) barriers) s operations portal staging c r
    → (r ≡ refused_call Memory) ⊎ ChecksOperationList bytes portal staging s c r
ready_checked bytes portal staging s c operations barriers r ready are (inl memory) = inl memory
ready_checked bytes portal staging s c operations barriers r ready are (inr checks) =
    inr (inr (operations, ready, subst (λ (marks : List Bool). ChecksPieces operation_kind (WithBarriers (OperationConflictAt operations) marks) s operations portal staging c r) are checks))

pub least_operation_emission : (bytes portal staging : List ℕ) (s : Limits) (c : Contents) (cost : ℕ) → ChecksOperationList bytes portal staging s c (Ok cost) → IsLeastOperationEmission bytes portal staging s cost
least_operation_emission bytes portal staging s c cost (inl (fault, refused, is)) = cc
least_operation_emission bytes portal staging s c cost (inr (operations, ready, checks)) =
    let (plan, emission, least, is) = least_checked operation_kind (WithBarriers (OperationConflictAt operations) (barriers_of bytes)) s operations portal staging c cost checks in
    record { operations = operations; ready = ready; plan = plan; emission = emission; least = least; is_cost = is }

pub least_if_checked : (bytes portal staging : List ℕ) (s : Limits) (c : Contents) (r : Result ℕ FencedFault) → (r ≡ refused_call Memory) ⊎ ChecksOperationList bytes portal staging s c r
    → IfOk r (IsLeastOperationEmission bytes portal staging s)
least_if_checked bytes portal staging s c (Ok cost) (inl is) = cc
least_if_checked bytes portal staging s c (Ok cost) (inr checks) = least_operation_emission bytes portal staging s c cost checks
least_if_checked bytes portal staging s c (Err fault) told = tt
