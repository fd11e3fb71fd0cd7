use Rattle.std.proofs.Common.{◌≡◌, ◌∙◌, [], ap, map}
use Rattle.dsa_operations.specs.declared.operation.Operation.TheVariants as operation
use Rattle.dsa_advice.proofs.Answered.{judged_beside, judged_so, subject_can}
use Rattle.dsa_advice.proofs.given_plan.answer_judged.Goals as goal

pub returns : goal.returns
returns c =
    let shown = c.plain-subject.ensures in
    let answered =
    judged_so c.args.settings.now c.plain-subject.result c.args.plan.now c.args.list.now.descriptors.items c.in_ok-least.least c.args.cost c.args.form c.in_ok-answer.answer
    shown.plan (shown.pieces ∙ c.deref-2.ensures.value ∙ c.in_ok-pieces.ensures ∙ ap (map operation.Descriptor) c.deref.ensures.value) shown.barriers shown.labels shown.least c.in_ok-least.ensures c.in_ok-answer.ensures in
    judged_beside c.args.settings.now c.args.plan.now c.args.list.now.descriptors.items c.args.cost c.args.form c.in_ok-answer.answer c.with_warnings.result c.with_warnings.ensures.status c.with_warnings.ensures.text answered

pub answer_with_least-requires : goal.answer_with_least-requires
answer_with_least-requires c =
    let shown = c.plain-subject.ensures in
    subject_can c.args.settings.now c.plain-subject.result c.args.plan.now (map operation.Descriptor c.args.list.now.descriptors.items) []
    shown.plan (shown.pieces ∙ c.deref-2.ensures.value ∙ c.in_ok-pieces.ensures ∙ ap (map operation.Descriptor) c.deref.ensures.value) shown.barriers c.requires.can
