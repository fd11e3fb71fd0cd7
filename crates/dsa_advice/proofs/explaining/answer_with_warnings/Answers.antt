use Rattle.std.proofs.Common.{List, Some, IfOk, subst}
use Rattle.dsa_operations.specs.declared.operation.Operation.{Operation}
use Rattle.dsa_advice.specs.Comments.{names_from}
use Rattle.dsa_advice.specs.Explained.{labels_of}
use Rattle.dsa_advice.specs.Shown.{AnswersPlan}
use Rattle.dsa_advice.proofs.Answered.{plan_beside}
use Rattle.dsa_advice.proofs.explaining.answer_with_warnings.Goals as goal

pub returns : goal.returns
returns c =
    let s = c.args.settings.now in
    let p = c.args.planned.now in
    subst (λ (os : List Operation). AnswersPlan s p.plan p.operations.items p.barriers.items (labels_of s os (names_from c.args.source)) (Some p.cost) c.args.form c.with_warnings.result)
    c.as_slice-operations.ensures.value
    (plan_beside s p.plan p.operations.items _ _ _ c.args.form c.in_ok-answer.answer c.with_warnings.result c.with_warnings.ensures.status c.with_warnings.ensures.text c.in_ok-answer.ensures)
