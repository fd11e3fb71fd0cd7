-- What calls answer of lists without fences or checksums.
use Rattle.std.proofs.Common.{◌≡◌, inl, inr, ℕ, List, Result, Ok, Err, refl, ap, ◌∙◌}
use Rattle.dsa_descriptor.specs.declared.descriptor.Descriptor.{Descriptor}
use Rattle.dsa_settings.specs.Plan.{Plan}
use Rattle.dsa_settings.specs.Settings.{Limits}
use Rattle.dsa_calls.specs.declared.fault.PlanFault.{PlanFault}
use Rattle.dsa_calls.proofs.BytesChecked.{shown_least}
use Rattle.dsa_calls.proofs.Submissions.{planned_is_least_and_shown}
use Rattle.dsa_calls.proofs.Unfenced.{no_fences_judge_alike, no_fences_plan_alike}
use Rattle.dsa_calls.specs.Fenced.{JudgesFenced, PlansFenced}
use Rattle.dsa_calls.specs.Planned.{Submission}
use Rattle.dsa_resume.specs.declared.left.LeftOrder.{LeftOrder}
use Rattle.dsa_resume.specs.Rest.{Remainder}
use Rattle.dsa_resume.specs.Resumed.{Resumes}
use Rattle.dsa_lists.specs.AnyLists.{IsOfDescriptors, JudgesAnyList, PlansAnyList, counted}
use Rattle.dsa_lists.specs.Submissions.{OperationSubmission}
use Rattle.dsa_operations.specs.declared.operation.Operation.{Operation}
use Rattle.dsa_operations.specs.Operations.{OperationConflictAt, operation_kind}
use Rattle.dsa_lists.specs.Resuming.{ResumesAnyList, as_operations, rest_bytes}
use Rattle.dsa_operations.proofs.Answered.{are_operations}
use Rattle.dsa_lists.proofs.Left.{fenced_alike}
use Rattle.dsa_lists.proofs.SubmittedAlike.{submitted_alike, submitted_back}
use Rattle.dsa_c.specs.Laws.{CheckedAsDescriptors, CheckedWithoutChecksums, JudgedWithoutFences, PlannedWithoutFences, ResumedWithoutChecksums}
use Rattle.dsa_c.specs.Marks.{plan_of}
use Rattle.dsa_c.specs.Raw.{limits_of}
use Rattle.dsa_c.specs.Resuming.{order_of, resumed_of}

descriptors_planned : (list : List ℕ) (l : Limits) (p : OperationSubmission) → IsOfDescriptors list → PlansAnyList list l (Ok p) → (q : Submission) × (p ≡ counted q) × PlansFenced list l (Ok q)
descriptors_planned list l p of (inl (of', (Ok q, plans, is))) =
    let same : p ≡ counted q = cc in
    (q, same, plans)
descriptors_planned list l p of (inl (of', (Err fault, plans, is))) = cc
descriptors_planned list l p of (inr (none, plans)) = absurd (none of)

descriptors_judged : (list : List ℕ) (plan : Plan) (l : Limits) (o : Result ℕ PlanFault) → IsOfDescriptors list → JudgesAnyList list plan l o → JudgesFenced list plan l o
descriptors_judged list plan l o of (inl (of', judges)) = judges
descriptors_judged list plan l o of (inr (none, judges)) = absurd (none of)

pub planned_without_fences : PlannedWithoutFences
planned_without_fences s table list p none of h =
    let l : Limits = limits_of s table in
    let (q, same, plans) = descriptors_planned list l p of h.planned in
    let planned = (no_fences_plan_alike list l (Ok q) none).0 plans in
    (h.settings, (q, same, (planned, planned_is_least_and_shown list l q planned)))

pub judged_without_fences : JudgedWithoutFences
judged_without_fences s table list marks cost none of h =
    (h.0, (no_fences_judge_alike list (plan_of marks) (limits_of s table) (Ok cost) none).0 (descriptors_judged list (plan_of marks) (limits_of s table) (Ok cost) of h.1))

pub checked_without_checksums : CheckedWithoutChecksums
checked_without_checksums s table portal staging c cost are checks =
    let l : Limits = limits_of s table in
    let accepted = submitted_alike portal staging l c cost checks in
    record {
      settings = are;
      checks = accepted;
      least = λ plan operations emission. shown_least Operation operation_kind are_operations OperationConflictAt portal staging l c (Ok cost) accepted plan operations emission refl;
    }

pub checked_as_descriptors : CheckedAsDescriptors
checked_as_descriptors s table portal staging c cost plan ds emission h = (h.settings, submitted_back portal staging (limits_of s table) c cost plan ds emission h.checks)

descriptors_resumed : (list records given_up : List ℕ) (order : LeftOrder) (l : Limits) (rest : Remainder Operation) → IsOfDescriptors list → ResumesAnyList l list records given_up order (Ok rest)
    → (seen : Remainder Descriptor) × (rest ≡ as_operations seen) × Resumes l list records given_up order (Ok seen)
descriptors_resumed list records given_up order l rest of (inl (of', (Ok seen, resumes, is))) =
    let same : rest ≡ as_operations seen = cc in
    (seen, same, resumes)
descriptors_resumed list records given_up order l rest of (inl (of', (Err fault, resumes, is))) = cc
descriptors_resumed list records given_up order l rest of (inr (none, resumes)) = absurd (none of)

pub resumed_without_checksums : ResumedWithoutChecksums
resumed_without_checksums s table list records given_up failed_first bytes resumed of h =
    let (seen, same, resumes) = descriptors_resumed list records given_up (order_of failed_first) (limits_of s table) h.rest of h.left.resumed in
    (seen, resumes, h.bytes_are ∙ ap rest_bytes same ∙ fenced_alike seen.pieces seen.barriers, h.resumed_is ∙ ap resumed_of same)
