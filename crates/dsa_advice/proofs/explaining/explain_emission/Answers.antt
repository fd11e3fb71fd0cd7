use Rattle.std.proofs.Common.{◌∙◌, inr, [], Some, Err, Ok, length, map, refl}
use Rattle.std.proofs.lemmas.Result.{IfOk-weaker}
use Rattle.dsa_descriptor.specs.Descriptors.{fields}
use Rattle.dsa_plan.specs.Certificate.{contents}
use Rattle.dsa_ranges.specs.Pieces.{DescriptorConflictAt}
use Rattle.dsa_calls.proofs.BytesChecked.{descriptors_emission}
use Rattle.dsa_calls.proofs.CheckedOnce.{one_plan_checked, plain_by, plain_checked}
use Rattle.dsa_operations.specs.declared.operation.Operation.TheVariants as operation
use Rattle.dsa_advice.specs.Explained.{is_refused_check, is_checked}
use Rattle.dsa_advice.specs.Shown.{unlabelled}
use Rattle.dsa_advice.proofs.Answered.{checked_can, subject_answered, subject_can, same_cause}
use Rattle.dsa_advice.proofs.explaining.explain_emission.Goals as goal

pub returns-in_ok-operations-in-Ok-clause-answer : goal.returns-in_ok-operations-in-Ok-clause-answer
returns-in_ok-operations-in-Ok-clause-answer c = λ portal staging emission.
    IfOk-weaker c.answer_plan.result _ _ (λ a answered. is_checked c.in-Ok.cost c.args.plan.now c.args.pieces.now emission (plain_checked c.args.settings.now c.args.pieces.now c.args.plan.now (contents c.args.certificate.now) (Ok c.in-Ok.cost) c.in-Ok.ensures) answered)
    (subject_answered c.answer_plan.result c.args.settings.now c.plain.result c.args.plan.now (map operation.Descriptor c.args.pieces.now) [] unlabelled (Some c.in-Ok.cost) c.args.form
    c.plain.ensures.plan (c.plain.ensures.pieces ∙ c.deref.ensures.value ∙ c.in_ok-operations-in-Ok.ensures) c.plain.ensures.barriers c.plain.ensures.labels c.plain.ensures.least c.answer_plan.ensures)

pub returns-in_ok-operations-in-Ok-clause-refused : goal.returns-in_ok-operations-in-Ok-clause-refused
returns-in_ok-operations-in-Ok-clause-refused c = λ fault checks.
    let same = one_plan_checked c.args.settings.now (map fields c.args.pieces.now) c.args.plan.now (contents c.args.certificate.now) (Ok c.in-Ok.cost) (Err fault)
    (plain_checked c.args.settings.now c.args.pieces.now c.args.plan.now (contents c.args.certificate.now) (Ok c.in-Ok.cost) c.in-Ok.ensures) checks in
    absurd cc

pub returns-in-Err-clause-answer : goal.returns-in-Err-clause-answer
returns-in-Err-clause-answer c = λ portal staging emission.
    IfOk-weaker c.fault.result _ _ (λ a h. is_refused_check c.in-Err.fault (inr (inr (c.args.plan.now, c.args.pieces.now, descriptors_emission c.args.settings.now portal staging c.args.plan.now c.args.pieces.now emission, plain_by (DescriptorConflictAt c.args.pieces.now) c.args.settings.now (length c.args.pieces.now) c.args.plan.now (contents c.args.certificate.now) (Err c.in-Err.fault) c.in-Err.ensures))) h) c.fault.ensures

pub returns-in-Err-clause-refused : goal.returns-in-Err-clause-refused
returns-in-Err-clause-refused c = λ fault checks.
    same_cause c.fault.result c.in-Err.fault fault (Err c.in-Err.fault) (Err fault)
    (one_plan_checked c.args.settings.now (map fields c.args.pieces.now) c.args.plan.now (contents c.args.certificate.now) (Err c.in-Err.fault) (Err fault)
    (plain_checked c.args.settings.now c.args.pieces.now c.args.plan.now (contents c.args.certificate.now) (Err c.in-Err.fault) c.in-Err.ensures) checks)
    refl refl c.fault.ensures

pub answer_plan-requires : goal.answer_plan-requires
answer_plan-requires c =
    subject_can c.args.settings.now c.plain.result c.args.plan.now (map operation.Descriptor c.args.pieces.now) [] c.plain.ensures.plan (c.plain.ensures.pieces ∙ c.deref.ensures.value ∙ c.in_ok-operations-in-Ok.ensures) c.plain.ensures.barriers
    (checked_can c.args.pieces.now c.args.plan.now c.args.settings.now (contents c.args.certificate.now) c.in-Ok.cost c.requires c.in-Ok.ensures)
