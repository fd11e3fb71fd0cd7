use Rattle.std.proofs.Common.{◌≡◌, Ok, Err}
use Rattle.dsa_plan.specs.Certificate.{contents}
use Rattle.dsa_calls.specs.declared.fault.PlanFault.TheVariants.{List as InList}
use Rattle.dsa_calls.specs.declared.checking.FencedFault.TheVariants.{Call, OtherPiece}
use Rattle.dsa_lists.proofs.AnyLists.{any_of_operations, checked_any, none_checked, only_any_check}
use Rattle.dsa_lists.proofs.any_list.check_any_list.Goals as goal

pub returns-in-Ok-clause-only : goal.returns-in-Ok-clause-only
returns-in-Ok-clause-only c =
    only_any_check c.args.list.now c.args.portal.now c.args.staging.now c.args.settings.now (contents c.args.certificate.now) (Ok c.in-Ok.cost)
    (checked_any c.args.list.now c.args.portal.now c.args.staging.now c.args.settings.now (contents c.args.certificate.now) (Ok c.in-Ok.cost) (λ cause e. cc) c.in-Ok.ensures.answer)

pub returns-in-Err-OtherPiece-clause-only : goal.returns-in-Err-OtherPiece-clause-only
returns-in-Err-OtherPiece-clause-only c =
    let told = rw c.in-Err-OtherPiece.field-0-is at c.in-Err-OtherPiece.ensures.answer in
    only_any_check c.args.list.now c.args.portal.now c.args.staging.now c.args.settings.now (contents c.args.certificate.now) (Err (OtherPiece c.in-Err-OtherPiece.index))
    (checked_any c.args.list.now c.args.portal.now c.args.staging.now c.args.settings.now (contents c.args.certificate.now) (Err (OtherPiece c.in-Err-OtherPiece.index)) (λ cause e. cc) told)

pub returns-then-is_of_bytes-clause-answer : goal.returns-then-is_of_bytes-clause-answer
returns-then-is_of_bytes-clause-answer c =
    let told = rw c.in-Err-Call.field-0-is at c.in-Err-Call.ensures.answer in
    any_of_operations c.args.list.now c.args.portal.now c.args.staging.now c.args.settings.now (contents c.args.certificate.now)
    (none_checked c.args.list.now c.args.portal.now c.args.staging.now c.args.settings.now (contents c.args.certificate.now) c.in-Err-Call.fault (c.is_of_bytes.ensures.0 c.if-is_of_bytes.true) told)
    c.check_operation_list.result c.check_operation_list.ensures.answer

pub returns-then-is_of_bytes-clause-only : goal.returns-then-is_of_bytes-clause-only
returns-then-is_of_bytes-clause-only c = only_any_check c.args.list.now c.args.portal.now c.args.staging.now c.args.settings.now (contents c.args.certificate.now) c.check_operation_list.result (returns-then-is_of_bytes-clause-answer c)

pub returns-else-is_of_bytes-clause-answer : goal.returns-else-is_of_bytes-clause-answer
returns-else-is_of_bytes-clause-answer c =
    let told = rw c.in-Err-Call.field-0-is at c.in-Err-Call.ensures.answer in
    checked_any c.args.list.now c.args.portal.now c.args.staging.now c.args.settings.now (contents c.args.certificate.now) (Err (Call c.in-Err-Call.fault))
    (λ cause e. let yes = c.is_of_bytes.ensures.1 (cause, (let same : c.in-Err-Call.fault ≡ InList cause = cc in same)) in cc) told

pub returns-else-is_of_bytes-clause-only : goal.returns-else-is_of_bytes-clause-only
returns-else-is_of_bytes-clause-only c = only_any_check c.args.list.now c.args.portal.now c.args.staging.now c.args.settings.now (contents c.args.certificate.now) (Err (Call c.in-Err-Call.fault)) (returns-else-is_of_bytes-clause-answer c)
