use Rattle.std.proofs.Common.{◌≡◌, Ok, Err}
use Rattle.dsa_calls.specs.declared.fault.PlanFault.TheVariants.{List as InList}
use Rattle.dsa_lists.proofs.AnyLists.{judged_any, none_judged, only_any_judge, or_any_judged}
use Rattle.dsa_lists.proofs.any_list.judge_any_list.Goals as goal

pub returns-in-Ok-clause-answer : goal.returns-in-Ok-clause-answer
returns-in-Ok-clause-answer c = judged_any c.args.list.now c.args.plan.now c.args.settings.now (Ok c.in-Ok.cost) (λ cause e. cc) c.in-Ok.ensures.answer

pub returns-in-Ok-clause-only : goal.returns-in-Ok-clause-only
returns-in-Ok-clause-only c = only_any_judge c.args.list.now c.args.plan.now c.args.settings.now (Ok c.in-Ok.cost) (returns-in-Ok-clause-answer c)

pub returns-then-is_of_bytes-clause-answer : goal.returns-then-is_of_bytes-clause-answer
returns-then-is_of_bytes-clause-answer c =
    or_any_judged c.args.list.now c.args.plan.now c.args.settings.now (none_judged c.args.list.now c.args.plan.now c.args.settings.now c.in-Err.fault (c.is_of_bytes.ensures.0 c.if-is_of_bytes.true) c.in-Err.ensures.answer) c.judge_operation_list.result c.judge_operation_list.ensures.answer

pub returns-then-is_of_bytes-clause-only : goal.returns-then-is_of_bytes-clause-only
returns-then-is_of_bytes-clause-only c = only_any_judge c.args.list.now c.args.plan.now c.args.settings.now c.judge_operation_list.result (returns-then-is_of_bytes-clause-answer c)

pub returns-else-is_of_bytes-clause-answer : goal.returns-else-is_of_bytes-clause-answer
returns-else-is_of_bytes-clause-answer c =
    judged_any c.args.list.now c.args.plan.now c.args.settings.now (Err c.in-Err.fault) (λ cause e. let yes = c.is_of_bytes.ensures.1 (cause, (let same : c.in-Err.fault ≡ InList cause = cc in same)) in cc) c.in-Err.ensures.answer

pub returns-else-is_of_bytes-clause-only : goal.returns-else-is_of_bytes-clause-only
returns-else-is_of_bytes-clause-only c = only_any_judge c.args.list.now c.args.plan.now c.args.settings.now (Err c.in-Err.fault) (returns-else-is_of_bytes-clause-answer c)
