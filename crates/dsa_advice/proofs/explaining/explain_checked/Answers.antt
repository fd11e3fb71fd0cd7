use Rattle.std.proofs.Common.{inr, List, Err, sym, subst}
use Rattle.std.proofs.lemmas.Result.{IfOk-weaker}
use Rattle.dsa_descriptor.specs.declared.descriptor.Descriptor.{Descriptor}
use Rattle.dsa_emission.specs.EmissionFaults.{IsEmission}
use Rattle.dsa_plan.specs.Certificate.{contents}
use Rattle.dsa_calls.specs.Checked.{Checks}
use Rattle.dsa_calls.proofs.Over.{only_outcome}
use Rattle.dsa_ranges.specs.Pieces.{DescriptorConflictAt, descriptors}
use Rattle.dsa_descriptor.proofs.Listed.{are_entries}
use Rattle.dsa_calls.proofs.BytesChecked.{bytes_refused, descriptors_emission, one_checked, said_of_plan}
use Rattle.dsa_calls.proofs.CheckedOnce.{fields_checked}
use Rattle.dsa_advice.specs.Explained.{is_refused_check}
use Rattle.dsa_advice.proofs.Answered.{told_cause}
use Rattle.dsa_advice.proofs.explaining.explain_checked.Goals as goal

pub returns-in-Ok-clause-answer : goal.returns-in-Ok-clause-answer
returns-in-Ok-clause-answer c =
    let emission = subst (λ (ds : List Descriptor). IsEmission c.args.settings.now c.args.portal.now c.args.staging.now c.in-Ok.plan ds) (sym c.deref.ensures.value) c.in-Ok.ensures.found in
    c.explain_emission.ensures.answer c.args.portal.now c.args.staging.now emission

pub returns-in-Ok-clause-refused : goal.returns-in-Ok-clause-refused
returns-in-Ok-clause-refused c = λ fault checks.
    let emission = subst (λ (ds : List Descriptor). IsEmission c.args.settings.now c.args.portal.now c.args.staging.now c.in-Ok.plan ds) (sym c.deref.ensures.value) c.in-Ok.ensures.found in
    let given = contents c.args.certificate.now in
    let ds = c.deref.result.now in
    let said = said_of_plan Descriptor descriptors are_entries DescriptorConflictAt c.args.portal.now c.args.staging.now c.args.settings.now given c.in-Ok.plan ds (Err fault)
    (descriptors_emission c.args.settings.now c.args.portal.now c.args.staging.now c.in-Ok.plan ds emission) checks in
    IfOk-weaker c.explain_emission.result _ _ (λ a h. inr h) (c.explain_emission.ensures.refused fault (fields_checked c.args.settings.now ds c.in-Ok.plan given (Err fault) said))

pub returns-in-Err-clause-answer : goal.returns-in-Err-clause-answer
returns-in-Err-clause-answer c =
    let told = bytes_refused descriptors DescriptorConflictAt c.args.portal.now c.args.staging.now c.args.settings.now (contents c.args.certificate.now) c.in-Err.fault c.from.result c.from.ensures c.in-Err.ensures.fault in
    IfOk-weaker c.fault.result _ _ (λ a h. is_refused_check c.from.result told h) c.fault.ensures

pub returns-in-Err-clause-refused : goal.returns-in-Err-clause-refused
returns-in-Err-clause-refused c = λ fault checks.
    let Outcome = Checks c.args.portal.now c.args.staging.now c.args.settings.now (contents c.args.certificate.now) in
    let one = one_checked c.args.portal.now c.args.staging.now c.args.settings.now (contents c.args.certificate.now) in
    let told = bytes_refused descriptors DescriptorConflictAt c.args.portal.now c.args.staging.now c.args.settings.now (contents c.args.certificate.now) c.in-Err.fault c.from.result c.from.ensures c.in-Err.ensures.fault in
    told_cause c.fault.result c.from.result fault (only_outcome (λ cost. cost) Outcome one (Err c.from.result) told (Err fault) checks) c.fault.ensures
