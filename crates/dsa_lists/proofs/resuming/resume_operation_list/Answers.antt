use Rattle.std.proofs.Common.{inl, inr, length, refl, sym, ap, ◌∙◌}
use Rattle.dsa_descriptor.specs.Fences.{barriers_of}
use Rattle.dsa_resume.specs.Resumed.{IsAnswer, ResumesPieces, Stopped}
use Rattle.dsa_resume.proofs.Resumed.{answers_for, answers_more, answers_plan}
use Rattle.dsa_operations.specs.declared.operation.Operation.{Operation}
use Rattle.dsa_operations.specs.Operations.{writes_of}
use Rattle.dsa_lists.specs.Resuming.{ResumesOperationList}
use Rattle.dsa_lists.proofs.Left.{again_if_left}
use Rattle.dsa_lists.proofs.resuming.resume_operation_list.Goals as goal
use Rattle.dsa_lists.proofs.resuming.resume_operation_list.Goals.{After-drop-operations-2}

pub returns-in-Err-clause-answer : goal.returns-in-Err-clause-answer
returns-in-Err-clause-answer c =
    answers_plan (ResumesOperationList c.args.settings.now c.args.list.now c.args.records.now c.args.given_up.now c.args.order) c.in-Err.fault
    (elim c.in-Err.ensures.fault [ inl memory ↦ inl memory | inr plans ↦ inr (inl (c.in-Err.fault, plans, refl)) ])

abbrev stopped : (c : After-drop-operations-2) → Stopped Operation
stopped c = record { pieces = c.in-Ok.operations.entries.items; barriers = barriers_of c.args.list.now; records = c.args.records.now; given_up = c.args.given_up.now }

left : (c : After-drop-operations-2) → IsAnswer (ResumesPieces writes_of c.args.order (stopped c)) c.resume_pieces.result
left c =
    answers_for writes_of c.args.order (stopped c) c.deref.result.now c.deref-2.result.now c.resume_pieces.result c.deref.ensures.value (c.deref-2.ensures.value ∙ c.in-Ok.ensures.barriers)
    c.resume_pieces.ensures

pub returns-clause-answer : goal.returns-clause-answer
returns-clause-answer c =
    answers_more (ResumesPieces writes_of c.args.order (stopped c)) (ResumesOperationList c.args.settings.now c.args.list.now c.args.records.now c.args.given_up.now c.args.order) c.resume_pieces.result
    (λ o resumes. inr (c.in-Ok.operations.entries.items, c.in-Ok.ensures.ready, resumes)) (left c)

pub returns-clause-again : goal.returns-clause-again
returns-clause-again c =
    let ready = c.in-Ok.ensures.ready in
    again_if_left c.args.settings.now c.args.order (stopped c) ready.can ready.owner
    (λ some. ap length (sym c.in-Ok.ensures.barriers) ∙ c.in-Ok.operations.marked (λ none. some (sym c.in-Ok.ensures.barriers ∙ none))) c.resume_pieces.result (left c)
