-- A list is refused a run for one cause, and where it isn't, it has one submission.
use Rattle.std.proofs.Common.{◌≡◌, ◌⊎◌, inl, inr, ℕ, List, map, Result, Ok, Err, refl, sym, ap, subst, ◌∙◌, arith}
use Rattle.dsa_descriptor.specs.declared.descriptor.Descriptor.{Descriptor}
use Rattle.dsa_descriptor.specs.Fields.{Fields}
use Rattle.dsa_descriptor.specs.Descriptors.{fields}
use Rattle.dsa_image.specs.Memory.{Memory}
use Rattle.dsa_image.proofs.Holdings.{first_is_one, none_outside}
use Rattle.dsa_settings.specs.Plan.{Plan, plan_cost}
use Rattle.dsa_settings.specs.Settings.{Limits, AreInLimits, tariff_of, version_of}
use Rattle.dsa_settings.specs.Legal.{IsLegal}
use Rattle.dsa_emission.specs.Emission.{portal_bytes, staging_bytes}
use Rattle.dsa_splitter.specs.Pieces.{all_pieces}
use Rattle.dsa_splitter.specs.Rules.{IsSplit}
use Rattle.dsa_splitter.proofs.OneFault.{split_no_fault}
use Rattle.dsa_core.specs.declared.outcome.Outcome.{Outcome}
use Rattle.dsa_core.specs.Accounts.{most_members}
use Rattle.dsa_settings.proofs.Epochs.{legal_with_more}
use Rattle.dsa_calls.specs.declared.fault.PlanFault.{PlanFault}
use Rattle.dsa_calls.specs.declared.fault.PlanFault.TheVariants.{OutOfImage, Memory as NoMemory}
use Rattle.dsa_calls.specs.Lists.{OrMemory}
use Rattle.dsa_calls.specs.Planned.{Submission, Plans, ArePiecesOf, IsPlanOf}
use Rattle.dsa_calls.specs.Runs.{CanBegin, IsFirstBeginFault, RefusesRun, OverPlanned, IsPlanned, IsReady, Left, left_of}
use Rattle.dsa_calls.specs.Laws.{IsOfPlan}
use Rattle.dsa_calls.proofs.Over.{one_list, no_list_fault}
use Rattle.dsa_calls.proofs.Submissions.{one_planned, same_pieces, whole_submission}

-- ---- whether a run can begin

can_or_fault : (m : Memory) (engines : ℕ) (pieces : List Fields) (fault : PlanFault) → CanBegin m engines pieces → IsFirstBeginFault m engines pieces fault → ⊥
can_or_fault m engines pieces fault can (inl (is, none)) = none can.are_engines
can_or_fault m engines pieces fault can (inr (inl (i, is, some, outside))) = none_outside m pieces i can.holds outside
can_or_fault m engines pieces fault can (inr (inr (is, some, holds, many))) = let few = can.few_events in omega arith

one_begin_fault : (m : Memory) (engines : ℕ) (pieces : List Fields) (f g : PlanFault) → IsFirstBeginFault m engines pieces f → IsFirstBeginFault m engines pieces g → f ≡ g
one_begin_fault m engines pieces f g (inl (is, none)) (inl (is', none')) = is ∙ sym is'
one_begin_fault m engines pieces f g (inl (is, none)) (inr (inl (j, is', some, outside))) = absurd (none some)
one_begin_fault m engines pieces f g (inl (is, none)) (inr (inr (is', some, holds, many))) = absurd (none some)
one_begin_fault m engines pieces f g (inr (inl (i, is, some, outside))) (inl (is', none)) = absurd (none some)
one_begin_fault m engines pieces f g (inr (inl (i, is, some, outside))) (inr (inl (j, is', some', outside'))) = is ∙ ap OutOfImage (first_is_one m pieces i j outside outside') ∙ sym is'
one_begin_fault m engines pieces f g (inr (inl (i, is, some, outside))) (inr (inr (is', some', holds, many))) = absurd (none_outside m pieces i holds outside)
one_begin_fault m engines pieces f g (inr (inr (is, some, holds, many))) (inl (is', none)) = absurd (none some)
one_begin_fault m engines pieces f g (inr (inr (is, some, holds, many))) (inr (inl (j, is', some', outside))) = absurd (none_outside m pieces j holds outside)
one_begin_fault m engines pieces f g (inr (inr (is, some, holds, many))) (inr (inr (is', some', holds', many'))) = is ∙ sym is'

-- ---- the pieces of a list

one_pieces : (bytes : List ℕ) (s : Limits) (ds es : List Descriptor) → ArePiecesOf s bytes ds → ArePiecesOf s bytes es → ds ≡ es
one_pieces bytes s ds es h k =
    let same : k.operations ≡ h.operations = one_list bytes h.operations k.operations h.listed k.listed in
    same_pieces ds es (h.pieces_are ∙ ap (λ (xs : List Descriptor). all_pieces (map fields xs) s.greatest_transfer) (sym same) ∙ sym k.pieces_are)

planned_pieces : (bytes : List ℕ) (s : Limits) (p : Submission) → Plans bytes s (Ok p) → ArePiecesOf s bytes p.pieces
planned_pieces bytes s p (inl (fault, other, first, is)) = cc
planned_pieces bytes s p (inr (ds, list, sub)) = record { operations = ds; listed = list; split = sub.split; pieces_are = sub.pieces_are }

-- planning doesn't refuse a list that is split
split_not_refused : (bytes : List ℕ) (s : Limits) (ds : List Descriptor) (fault : PlanFault) → ArePiecesOf s bytes ds → Plans bytes s (Err fault) → ⊥
split_not_refused bytes s ds fault are (inl (cause, other, first, is)) = no_list_fault bytes are.operations cause are.listed other first
split_not_refused bytes s ds fault are (inr (es, list, (cause, other, first, is))) =
    let same : es ≡ are.operations = one_list bytes are.operations es are.listed list in
    let split = subst (λ (xs : List Descriptor). IsSplit s.greatest_transfer s.staging (map fields xs)) (sym same) are.split in
    other (split_no_fault s.greatest_transfer s.staging (map fields es) cause split first)

-- ---- one refusal

same_begin_fault : (bytes : List ℕ) (s : Limits) (m : Memory) (engines : ℕ) (ds es : List Descriptor) (fault : PlanFault) → ArePiecesOf s bytes ds → ArePiecesOf s bytes es
    → IsFirstBeginFault m engines (map fields ds) fault → IsFirstBeginFault m engines (map fields es) fault
same_begin_fault bytes s m engines ds es fault are are' first =
    subst (λ (xs : List Descriptor). IsFirstBeginFault m engines (map fields xs) fault) (one_pieces bytes s ds es are are') first

one_refusal : (bytes : List ℕ) (s : Limits) (m : Memory) (engines : ℕ) (f g : PlanFault) → RefusesRun bytes s m engines f → RefusesRun bytes s m engines g → f ≡ g
one_refusal bytes s m engines f g (inl refused) (inl refused') =
    let same : ◌≡◌ {A = Result Submission PlanFault} (Err f) (Err g) = one_planned bytes s (Err f) (Err g) refused refused' in
    cc
one_refusal bytes s m engines f g (inl refused) (inr (es, are, first)) = absurd (split_not_refused bytes s es f are refused)
one_refusal bytes s m engines f g (inr (ds, are, first)) (inl refused) = absurd (split_not_refused bytes s ds g are refused)
one_refusal bytes s m engines f g (inr (ds, are, first)) (inr (es, are', first')) =
    one_begin_fault m engines (map fields es) f g (same_begin_fault bytes s m engines ds es f are are' first) first'

-- a refusal of a planned list is one of its pieces
of_planned : (bytes : List ℕ) (s : Limits) (m : Memory) (engines : ℕ) (p : Submission) (fault : PlanFault) → Plans bytes s (Ok p) → RefusesRun bytes s m engines fault
    → IsFirstBeginFault m engines (map fields p.pieces) fault
of_planned bytes s m engines p fault plans (inl refused) = absurd (split_not_refused bytes s p.pieces fault (planned_pieces bytes s p plans) refused)
of_planned bytes s m engines p fault plans (inr (ds, are, first)) = same_begin_fault bytes s m engines ds p.pieces fault are (planned_pieces bytes s p plans) first

-- none is refused where a run can begin
can_or_refused : (bytes : List ℕ) (s : Limits) (m : Memory) (engines : ℕ) (p : Submission) (fault : PlanFault) → Plans bytes s (Ok p) → CanBegin m engines (map fields p.pieces)
    → RefusesRun bytes s m engines fault → ⊥
can_or_refused bytes s m engines p fault plans can refused = can_or_fault m engines (map fields p.pieces) fault can (of_planned bytes s m engines p fault plans refused)

-- ---- over a planned list

same_planned : (bytes : List ℕ) (s : Limits) (p q : Submission) → Plans bytes s (Ok p) → Plans bytes s (Ok q) → p ≡ q
same_planned bytes s p q plans plans' =
    let both : ◌≡◌ {A = Result Submission PlanFault} (Ok p) (Ok q) = one_planned bytes s (Ok p) (Ok q) plans plans' in
    cc

-- the run was refused
pub run_refused : {X Y : Type 0} (shown : X → Y) (Says : Submission → Result Y PlanFault → Type 0) (bytes : List ℕ) (s : Limits) (m : Memory) (engines : ℕ) (fault : PlanFault) →
    (fault ≡ NoMemory) ⊎ RefusesRun bytes s m engines fault → OrMemory shown (OverPlanned Says bytes s m engines) (Err fault)
run_refused shown Says bytes s m engines fault (inl is) = inl is
run_refused shown Says bytes s m engines fault (inr refused) = inr (inl (fault, refused, refl))

-- the submission was taken
pub planned_taken : {X Y : Type 0} (shown : X → Y) (Says : Submission → Result Y PlanFault → Type 0) (bytes : List ℕ) (s : Limits) (m : Memory) (engines : ℕ) (p : Submission) (r : Result X PlanFault) →
    Plans bytes s (Ok p) → CanBegin m engines (map fields p.pieces) → OrMemory shown (Says p) r → OrMemory shown (OverPlanned Says bytes s m engines) r
planned_taken shown Says bytes s m engines p (Ok x) plans can says = inr (p, plans, can, says)
planned_taken shown Says bytes s m engines p (Err fault) plans can (inl is) = inl is
planned_taken shown Says bytes s m engines p (Err fault) plans can (inr says) = inr (inr (p, plans, can, says))

-- what a call says of one submission agrees, so what it says over a list does
pub one_over_planned : {Y : Type 0} (Agree : Result Y PlanFault → Result Y PlanFault → Type 0) (Says : Submission → Result Y PlanFault → Type 0) → ((o q : Result Y PlanFault) → o ≡ q → Agree o q)
    → ((p : Submission) (o q : Result Y PlanFault) → Says p o → Says p q → Agree o q)
    → (bytes : List ℕ) (s : Limits) (m : Memory) (engines : ℕ) (o q : Result Y PlanFault) → OverPlanned Says bytes s m engines o → OverPlanned Says bytes s m engines q → Agree o q
one_over_planned {Y} Agree Says same one bytes s m engines o q (inl (f, refused, is)) (inl (g, refused', is')) =
    same o q (is ∙ ap (λ (x : PlanFault). Err x) (one_refusal bytes s m engines f g refused refused') ∙ sym is')
one_over_planned Agree Says same one bytes s m engines o q (inl (f, refused, is)) (inr (p, plans, can, says)) = absurd (can_or_refused bytes s m engines p f plans can refused)
one_over_planned Agree Says same one bytes s m engines o q (inr (p, plans, can, says)) (inl (f, refused, is)) = absurd (can_or_refused bytes s m engines p f plans can refused)
one_over_planned Agree Says same one bytes s m engines o q (inr (p, plans, can, says)) (inr (p', plans', can', says')) =
    one p o q says (subst (λ (x : Submission). Says x q) (same_planned bytes s p' p plans' plans) says')

-- where planning answers, what a call says is of that submission
pub follows_plan : {Y : Type 0} (Says : Submission → Result Y PlanFault → Type 0) (bytes : List ℕ) (s : Limits) (m : Memory) (engines : ℕ) (p : Submission) (o : Result Y PlanFault) →
    Plans bytes s (Ok p) → OverPlanned Says bytes s m engines o → IsOfPlan Says m engines p o
follows_plan Says bytes s m engines p o plans (inl (fault, refused, is)) = inl (fault, of_planned bytes s m engines p fault plans refused, is)
follows_plan Says bytes s m engines p o plans (inr (q, plans', can, says)) =
    subst (λ (x : Submission). IsOfPlan Says m engines x o) (same_planned bytes s q p plans' plans) (inr (can, says))

-- ---- what a run takes

-- a legal plan is legal in a room
pub legal_in_room : (C : ℕ → ℕ → Type 0) (s : Limits) (n : ℕ) (plan : Plan) → AreInLimits s → IsLegal C s.greatest_batch n plan → IsLegal C most_members n plan
legal_in_room C s n plan within legal = legal_with_more C s.greatest_batch most_members n plan within.most_batch legal

-- the pieces of a list and their chosen plan are those of its submission
pub found_submission : (bytes : List ℕ) (s : Limits) (pieces : List Descriptor) (plan : Plan) → ArePiecesOf s bytes pieces → IsPlanOf s pieces plan → IsPlanned bytes s pieces plan
found_submission bytes s pieces plan are (prices, pairs, chosen) =
    let p : Submission = record {
      pieces = pieces;
      plan = plan;
      certificate = record { version = version_of s; prices = prices; pairs = pairs };
      cost = plan_cost (tariff_of s) plan;
      portal = portal_bytes s plan (map fields pieces);
      staging = staging_bytes plan (map fields pieces);
    } in (
      p,
      whole_submission bytes s p are (record { chosen = chosen; version_is = refl; cost_is = refl; portal_is = refl; staging_is = refl }),
      refl,
      refl,
    )

-- what is said of what a run takes is said of the submission
pub of_submission : (P : ℕ → Plan → List Descriptor → Type 0) (bytes : List ℕ) (s : Limits) (m : Memory) (engines : ℕ) (pieces ds : List Descriptor) (plan : Plan) (number : ℕ)
    (ready : IsReady bytes s m engines pieces plan number) → ds ≡ pieces → P number plan ds → P engines (ready.planned.0).plan (ready.planned.0).pieces
of_submission P bytes s m engines pieces ds plan number ready same says =
    let p = ready.planned.0 in
    let pieces_are : p.pieces ≡ pieces = ready.planned.2 in
    let plan_is : p.plan ≡ plan = ready.planned.3 in
    let at_pieces = subst (λ (xs : List Descriptor). P number plan xs) (same ∙ sym pieces_are) says in
    let at_plan = subst (λ (x : Plan). P number x p.pieces) (sym plan_is) at_pieces in
    subst (λ (n : ℕ). P n p.plan p.pieces) ready.number_is at_plan

pub ready_taken : (Says : ℕ → Plan → List Fields → Result Left PlanFault → Type 0) (bytes : List ℕ) (s : Limits) (m : Memory) (engines : ℕ) (pieces ds : List Descriptor) (plan : Plan) (number : ℕ)
    (r : Result Outcome PlanFault) → IsReady bytes s m engines pieces plan number → ds ≡ pieces → OrMemory left_of (Says number plan (map fields ds)) r
    → OrMemory left_of (OverPlanned (λ p o. Says engines p.plan (map fields p.pieces) o) bytes s m engines) r
ready_taken Says bytes s m engines pieces ds plan number r ready same says =
    let p = ready.planned.0 in
    let can = subst (λ (xs : List Descriptor). CanBegin m engines (map fields xs)) (sym ready.planned.2) ready.can in
    planned_taken left_of (λ q o. Says engines q.plan (map fields q.pieces) o) bytes s m engines p r ready.planned.1 can
    (of_submission (λ n x xs. OrMemory left_of (Says n x (map fields xs)) r) bytes s m engines pieces ds plan number ready same says)

pub ready_can : (bytes : List ℕ) (s : Limits) (m : Memory) (engines : ℕ) (pieces ds : List Descriptor) (plan : Plan) (number : ℕ) → IsReady bytes s m engines pieces plan number → ds ≡ pieces
    → CanBegin m number (map fields ds)
ready_can bytes s m engines pieces ds plan number ready same =
    let here = subst (λ (n : ℕ). CanBegin m n (map fields pieces)) (sym ready.number_is) ready.can in
    subst (λ (xs : List Descriptor). CanBegin m number (map fields xs)) (sym same) here
