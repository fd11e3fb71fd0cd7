use Rattle.std.proofs.Common.{Ok, Err, sym, subst}
use Rattle.dsa_calls.specs.Planned.{submission_of}
use Rattle.dsa_lists.specs.AnyLists.{PlansAnyList}
use Rattle.dsa_lists.specs.Submissions.{OperationSubmission, operation_submission_of}
use Rattle.dsa_lists.proofs.AnyLists.{checks_any, least_any, none_planned, only_any, or_any, planned_any, refused_any}
use Rattle.dsa_lists.proofs.any_list.plan_any_list.Goals as goal
use Rattle.dsa_lists.proofs.any_list.plan_any_list.Goals.{After-counted}

told : (c : After-counted) → PlansAnyList c.args.list.now c.args.settings.now (Ok (operation_submission_of c.counted.result))
told c = subst (λ (p : OperationSubmission). PlansAnyList c.args.list.now c.args.settings.now (Ok p)) (sym c.counted.ensures) (planned_any c.args.list.now c.args.settings.now (submission_of c.in-Ok.planned) c.in-Ok.ensures.answer)

pub returns-in-Ok-clause-only : goal.returns-in-Ok-clause-only
returns-in-Ok-clause-only c = only_any c.args.list.now c.args.settings.now (Ok c.counted.result) (told c)

pub returns-in-Ok-clause-checks : goal.returns-in-Ok-clause-checks
returns-in-Ok-clause-checks c = checks_any c.args.list.now c.args.settings.now (Ok c.counted.result) (told c)

pub returns-then-is_of_bytes-clause-answer : goal.returns-then-is_of_bytes-clause-answer
returns-then-is_of_bytes-clause-answer c =
    or_any c.args.list.now c.args.settings.now (none_planned c.args.list.now c.args.settings.now c.in-Err.fault (c.is_of_bytes.ensures.0 c.if-is_of_bytes.true) c.in-Err.ensures.answer) c.plan_operation_list.result c.plan_operation_list.ensures.answer

pub returns-then-is_of_bytes-clause-only : goal.returns-then-is_of_bytes-clause-only
returns-then-is_of_bytes-clause-only c = only_any c.args.list.now c.args.settings.now c.plan_operation_list.result (returns-then-is_of_bytes-clause-answer c)

pub returns-then-is_of_bytes-clause-least : goal.returns-then-is_of_bytes-clause-least
returns-then-is_of_bytes-clause-least c = least_any c.args.list.now c.args.settings.now c.plan_operation_list.result (returns-then-is_of_bytes-clause-answer c)

pub returns-then-is_of_bytes-clause-checks : goal.returns-then-is_of_bytes-clause-checks
returns-then-is_of_bytes-clause-checks c = checks_any c.args.list.now c.args.settings.now c.plan_operation_list.result (returns-then-is_of_bytes-clause-answer c)

pub returns-else-is_of_bytes-clause-answer : goal.returns-else-is_of_bytes-clause-answer
returns-else-is_of_bytes-clause-answer c =
    refused_any c.args.list.now c.args.settings.now c.in-Err.fault (λ cause e. let yes = c.is_of_bytes.ensures.1 (cause, e) in cc) c.in-Err.ensures.answer

pub returns-else-is_of_bytes-clause-only : goal.returns-else-is_of_bytes-clause-only
returns-else-is_of_bytes-clause-only c = only_any c.args.list.now c.args.settings.now (Err c.in-Err.fault) (returns-else-is_of_bytes-clause-answer c)
