-- What explaining answers, by what the calls answer.
use Rattle.std.proofs.Common.{◌≡◌, ◌≤◌, ◌⊎◌, ◌∙◌, inl, inr, ℕ, Bool, List, [], ◌++◌, ap, map, refl, Result, Option, Some, Ok, Err, IfOk, string_bytes, sym, subst, None, length, arith}
use Rattle.std.proofs.lemmas.List.{length-map}
use Rattle.std.proofs.lemmas.Result.{IfOk-weaker}
use Rattle.dsa_descriptor.specs.declared.descriptor.Descriptor.{Descriptor}
use Rattle.dsa_descriptor.specs.Descriptors.{fields}
use Rattle.dsa_descriptor.specs.Pieces.{most_pieces}
use Rattle.dsa_explain.specs.Runs.{Labelling, labelling}
use Rattle.dsa_settings.specs.Plan.{Plan}
use Rattle.dsa_plan.specs.Certificate.{Contents}
use Rattle.dsa_settings.specs.Barriers.{WithBarriers}
use Rattle.dsa_settings.specs.Legal.{IsLegal}
use Rattle.dsa_settings.specs.Settings.{Limits}
use Rattle.dsa_ranges.specs.Ranges.{ConflictAt}
use Rattle.dsa_calls.specs.declared.fault.PlanFault.{PlanFault}
use Rattle.dsa_calls.specs.declared.fault.PlanFault.TheVariants.{Memory}
use Rattle.dsa_calls.specs.Lists.{IsOrMemory, OrMemory}
use Rattle.dsa_lists.specs.ReadLists.{PlansRead, planned_pieces_of}
use Rattle.dsa_lists.proofs.ReadLists.{legal_as_operations}
use Rattle.dsa_operations.specs.declared.operation.Operation.{Operation}
use Rattle.dsa_operations.specs.declared.operation.Operation.TheVariants as operation
use Rattle.dsa_calls.specs.Checked.{ChecksPlanBy}
use Rattle.dsa_calls.specs.Judge.{JudgesPiecesBy}
use Rattle.dsa_reasons.specs.declared.fences.Detail.{Detail}
use Rattle.dsa_explain.specs.Explained.{CanBeExplained}
use Rattle.dsa_advice.specs.declared.answer.Answer.{Answer}
use Rattle.dsa_advice.specs.Refusals.{IsRefusal}
use Rattle.dsa_advice.specs.Explained.{AnswersJudged, AnswersWithLeast, ExplainsOperations, IsNamedLeast, TellsJudged, is_compared, is_refused, is_told, is_waiting, least_words}
use Rattle.dsa_advice.specs.declared.form.Form.{Form}
use Rattle.dsa_advice.specs.declared.form.Form.TheVariants.{Words, Picture, Json, Waits}
use Rattle.dsa_advice.specs.declared.shown.Subject.{Subject}
use Rattle.dsa_advice.specs.Shown.{AnswersPlan, AnswersSubject, CanBeShown, ShowsPlan, TellsPlan, is_shown, is_too_large, is_untracked, unlabelled}

-- what holds of an answer by two clauses
pub both : {T E : Type 0} (r : Result T E) (P Q R : T → Type 0) → ((a : T) → P a → Q a → R a) → IfOk r P → IfOk r Q → IfOk r R
both (Ok a) P Q R f p q = f a p q
both (Err e) P Q R f p q = p

-- ---- faults

-- what was reported is the cause, unless an allocation failed
pub told_cause : {E : Type 0} (r : Result Answer E) (told fault : PlanFault) → IsOrMemory (λ (cost : ℕ). cost) (Err fault) (Err told) → IfOk r (IsRefusal told)
    → IfOk r (λ a. IsRefusal Memory a ⊎ IsRefusal fault a)
told_cause r told fault (inl e) h = IfOk-weaker r _ _ (λ a x. inl (subst (λ (f : PlanFault). IsRefusal f a) e x)) h
told_cause r told fault (inr e) h =
    let same : told ≡ fault = cc in
    IfOk-weaker r _ _ (λ a x. inr (subst (λ (f : PlanFault). IsRefusal f a) same x)) h

-- ---- a plan

-- the plan that is shown, seen by what its parts are equal to
pub subject_answered : {E : Type 0} (r : Result Answer E) (s : Limits) (x : Subject) (plan : Plan) (ds : List Operation) (bs : List Bool) (os : Labelling) (least : Option ℕ) (form : Form)
    → x.plan.now ≡ plan → x.pieces.now ≡ ds → x.barriers.now ≡ bs → labelling x.labels ≡ os → x.least ≡ least
    → IfOk r (AnswersSubject s x form) → IfOk r (AnswersPlan s plan ds bs os least form)
subject_answered r s x plan ds bs os least form e f g h k answers =
    let first = subst (λ (p : Plan). IfOk r (AnswersPlan s p x.pieces.now x.barriers.now (labelling x.labels) x.least form)) e answers in
    let second = subst (λ (p : List Operation). IfOk r (AnswersPlan s plan p x.barriers.now (labelling x.labels) x.least form)) f first in
    let third = subst (λ (p : List Bool). IfOk r (AnswersPlan s plan ds p (labelling x.labels) x.least form)) g second in
    let fourth = subst (λ (p : Labelling). IfOk r (AnswersPlan s plan ds bs p x.least form)) h third in
    subst (λ (n : Option ℕ). IfOk r (AnswersPlan s plan ds bs os n form)) k fourth

-- the same of words
pub subject_told : (s : Limits) (detail : Detail) (x : Subject) (plan : Plan) (ds : List Operation) (bs : List Bool) (os : Labelling) (text : List ℕ)
    → x.plan.now ≡ plan → x.pieces.now ≡ ds → x.barriers.now ≡ bs → labelling x.labels ≡ os
    → TellsPlan s detail x.plan.now x.pieces.now x.barriers.now (labelling x.labels) text → TellsPlan s detail plan ds bs os text
subject_told s detail x plan ds bs os text e f g h tells =
    let first = subst (λ (p : Plan). TellsPlan s detail p x.pieces.now x.barriers.now (labelling x.labels) text) e tells in
    let second = subst (λ (p : List Operation). TellsPlan s detail plan p x.barriers.now (labelling x.labels) text) f first in
    let third = subst (λ (p : List Bool). TellsPlan s detail plan ds p (labelling x.labels) text) g second in
    subst (λ (p : Labelling). TellsPlan s detail plan ds bs p text) h third

-- and of what is shown
pub subject_can : (s : Limits) (x : Subject) (plan : Plan) (ds : List Operation) (bs : List Bool)
    → x.plan.now ≡ plan → x.pieces.now ≡ ds → x.barriers.now ≡ bs → CanBeExplained s ds bs plan → CanBeShown s x
subject_can s x plan ds bs e f g can =
    let first = subst (λ (p : Plan). CanBeExplained s ds bs p) (sym e) can in
    let second = subst (λ (p : List Operation). CanBeExplained s p bs x.plan.now) (sym f) first in
    subst (λ (p : List Bool). CanBeExplained s x.pieces.now p x.plan.now) (sym g) second

-- ---- plans that can be explained

-- so many pieces, as operations
few_operations : (ds : List Descriptor) → length ds ≤ most_pieces → length (map operation.Descriptor ds) ≤ most_pieces
few_operations ds few = omega (arith, few, length-map ds operation.Descriptor)

-- a plan that was judged
pub judged_can : (ds : List Descriptor) (plan : Plan) (s : Limits) (cost : ℕ) → JudgesPiecesBy (WithBarriers (ConflictAt (map fields ds)) []) (map (λ d. d.size) ds) plan s (Ok cost)
    → CanBeExplained s (map operation.Descriptor ds) [] plan
judged_can ds plan s cost judges =
    let count : length (map (λ d. d.size) ds) ≡ length ds = length-map ds (λ d. d.size) in
    record {
      few = few_operations ds (omega (arith, count, judges.0));
      legal = legal_as_operations ds [] s.greatest_batch plan (subst (λ (n : ℕ). IsLegal (WithBarriers (ConflictAt (map fields ds)) []) s.greatest_batch n plan) count judges.2);
    }

-- a plan that was checked
pub checked_can : (ds : List Descriptor) (plan : Plan) (s : Limits) (certificate : Contents) (cost : ℕ) → length ds ≤ most_pieces
    → ChecksPlanBy (WithBarriers (ConflictAt (map fields ds)) []) s (length ds) plan certificate (Ok cost) → CanBeExplained s (map operation.Descriptor ds) [] plan
checked_can ds plan s certificate cost few checks = record { few = few_operations ds few; legal = legal_as_operations ds [] s.greatest_batch plan checks.legal }

-- ---- warnings

-- what is said beside an answer, as warnings, changes neither its status nor its text
pub plan_beside : (s : Limits) (plan : Plan) (ds : List Operation) (bs : List Bool) (origins : Labelling) (least : Option ℕ) (form : Form) (a b : Answer)
    → b.status ≡ a.status → b.text ≡ a.text → AnswersPlan s plan ds bs origins least form a → AnswersPlan s plan ds bs origins least form b
plan_beside s plan ds bs origins least form a b status text (is_shown z shows) =
    is_shown (status ∙ z) (subst (λ (t : List ℕ). ShowsPlan form s plan ds bs origins least t) (sym (ap string_bytes text)) shows)
plan_beside s plan ds bs origins least form a b status text (is_too_large range drawn can many one words) =
    is_too_large range drawn can many (status ∙ one) (ap string_bytes text ∙ words)
plan_beside s plan ds bs origins least form a b status text (is_untracked fault waits can refused one words) =
    is_untracked fault waits can refused (status ∙ one) (ap string_bytes text ∙ words)

pub judged_beside : (s : Limits) (plan : Plan) (ds : List Descriptor) (cost : ℕ) (form : Form) (a b : Answer)
    → b.status ≡ a.status → b.text ≡ a.text → AnswersJudged s plan ds cost form a → AnswersJudged s plan ds cost form b
judged_beside s plan ds cost form a b status text (is_compared least compares is answers) =
    is_compared least compares is (plan_beside s plan (map operation.Descriptor ds) [] unlabelled least form a b status text answers)
judged_beside s plan ds cost form a b status text (is_waiting waits answers) =
    is_waiting waits (plan_beside s plan (map operation.Descriptor ds) [] unlabelled None form a b status text answers)
judged_beside s plan ds cost form a b status text (is_told detail told z tells) =
    is_told detail told (status ∙ z) (subst (λ (t : List ℕ). TellsJudged s detail plan ds cost t) (sym (ap string_bytes text)) tells)

-- a given plan by what is shown of its pieces as operations
pub judged_so : (s : Limits) (x : Subject) (plan : Plan) (ds : List Descriptor) (least : Option ℕ) (cost : ℕ) (form : Form) (a : Answer)
    → x.plan.now ≡ plan → x.pieces.now ≡ map operation.Descriptor ds → x.barriers.now ≡ [] → labelling x.labels ≡ unlabelled → x.least ≡ least
    → IsNamedLeast s (map fields ds) form least → AnswersWithLeast s x cost form a → AnswersJudged s plan ds cost form a
judged_so s x plan ds least cost (Words detail) a e f g h k named answers =
    is_told detail refl answers.done (record {
      words = answers.words;
      least = least;
      tells = subject_told s detail x plan (map operation.Descriptor ds) [] unlabelled answers.words e f g h answers.tells;
      is_least = named;
      text_is = answers.text_is ∙ ap (λ (n : Option ℕ). answers.words ++ least_words cost n) k;
    })
judged_so s x plan ds least cost (Picture range) a e f g h k named answers =
    is_compared least tt named (subject_answered {E = ℕ} (Ok a) s x plan (map operation.Descriptor ds) [] unlabelled least (Picture range) e f g h k answers)
judged_so s x plan ds least cost Json a e f g h k named answers =
    is_compared least tt named (subject_answered {E = ℕ} (Ok a) s x plan (map operation.Descriptor ds) [] unlabelled least Json e f g h k answers)
judged_so s x plan ds least cost Waits a e f g h k named answers =
    is_waiting refl (subject_answered {E = ℕ} (Ok a) s x plan (map operation.Descriptor ds) [] unlabelled None Waits e f g h (k ∙ named) answers)

-- of operations that are refused
pub operations_refused : {E : Type 0} (operations : List Operation) (bs : List Bool) (names : List (List ℕ)) (s : Limits) (form : Form) (fault : PlanFault) (r : Result Answer E)
    → OrMemory planned_pieces_of (PlansRead s operations bs) (Err fault) → IfOk r (IsRefusal fault) → IfOk r (ExplainsOperations operations bs names s form)
operations_refused operations bs names s form fault r told h = IfOk-weaker r _ _ (λ a x. is_refused fault told x) h

-- the one cause is the one that is reported
pub same_cause : {E : Type 0} (r : Result Answer E) (told fault : PlanFault) (o p : Result ℕ PlanFault) → o ≡ p → o ≡ Err told → p ≡ Err fault → IfOk r (IsRefusal told) → IfOk r (IsRefusal fault)
same_cause r told fault o p e is is' h =
    let same : told ≡ fault = cc in
    subst (λ (f : PlanFault). IfOk r (IsRefusal f)) same h
