use Rattle.std.proofs.Common.{Ok, subst, sym}
use Rattle.dsa_resume.specs.Rest.{Remainder, remainder_of}
use Rattle.dsa_operations.specs.declared.operation.Operation.{Operation}
use Rattle.dsa_lists.specs.Resuming.{IsListAgain, ResumesAnyList}
use Rattle.dsa_lists.proofs.Left.{answers_any, descriptors_again, left_any, no_descriptors_resumed, refused_any}
use Rattle.dsa_lists.proofs.resuming.resume_any_list.Goals as goal

pub returns-in-Ok-as_operations-clause-answer : goal.returns-in-Ok-as_operations-clause-answer
returns-in-Ok-as_operations-clause-answer c =
    subst (λ (rest : Remainder Operation). ResumesAnyList c.args.settings.now c.args.list.now c.args.records.now c.args.given_up.now c.args.order (Ok rest)) (sym c.in-Ok-as_operations.ensures)
    (left_any c.args.settings.now c.args.list.now c.args.records.now c.args.given_up.now c.args.order (remainder_of c.in-Ok.rest) c.in-Ok.ensures.answer)

pub returns-in-Ok-as_operations-clause-again : goal.returns-in-Ok-as_operations-clause-again
returns-in-Ok-as_operations-clause-again c =
    subst (λ (rest : Remainder Operation). IsListAgain c.args.settings.now rest) (sym c.in-Ok-as_operations.ensures)
    (descriptors_again c.args.settings.now (remainder_of c.in-Ok.rest) c.in-Ok.ensures.again)

pub returns-then-is_of_other_bytes-clause-answer : goal.returns-then-is_of_other_bytes-clause-answer
returns-then-is_of_other_bytes-clause-answer c =
    answers_any c.args.settings.now c.args.list.now c.args.records.now c.args.given_up.now c.args.order
    (no_descriptors_resumed c.args.settings.now c.args.list.now c.args.records.now c.args.given_up.now c.args.order c.in-Err.fault (c.is_of_other_bytes.ensures.0 c.if-is_of_other_bytes.true) c.in-Err.ensures.answer)
    c.resume_operation_list.result c.resume_operation_list.ensures.answer

pub returns-else-is_of_other_bytes-clause-answer : goal.returns-else-is_of_other_bytes-clause-answer
returns-else-is_of_other_bytes-clause-answer c =
    refused_any c.args.settings.now c.args.list.now c.args.records.now c.args.given_up.now c.args.order c.in-Err.fault
    (λ cause is. let yes = c.is_of_other_bytes.ensures.1 (cause, is) in cc) c.in-Err.ensures.answer
