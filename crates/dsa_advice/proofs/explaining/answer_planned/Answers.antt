use Rattle.std.proofs.Common.{Some, ap, ◌∙◌}
use Rattle.std.specs.Prelude.{map, string_bytes}
use Rattle.dsa_advice.proofs.Answered.{subject_answered, subject_can}
use Rattle.dsa_advice.proofs.Named.{labelled}
use Rattle.dsa_advice.proofs.explaining.answer_planned.Goals as goal

pub returns : goal.returns
returns c =
    let planned = c.args.planned.now in
    let made = c.subject_of-subject.ensures in
    let origins = c.deref.ensures.value ∙ c.in_ok-origins.ensures in
    subject_answered c.answer_plan.result c.args.settings.now c.subject_of-subject.result planned.plan planned.operations.items planned.barriers.items _ (Some planned.cost) c.args.form made.plan made.pieces made.barriers
    (made.labels ∙ labelled origins (ap (map string_bytes) c.deref-2.ensures.value ∙ c.in_ok-comments.ensures)) made.least c.answer_plan.ensures

pub answer_plan-requires : goal.answer_plan-requires
answer_plan-requires c =
    let planned = c.args.planned.now in
    let made = c.subject_of-subject.ensures in
    subject_can c.args.settings.now c.subject_of-subject.result planned.plan planned.operations.items planned.barriers.items made.plan made.pieces made.barriers c.requires
