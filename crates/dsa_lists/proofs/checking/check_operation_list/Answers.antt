use Rattle.std.proofs.Common.{◌≡◌, ◌⊎◌, inl, inr, List, Err, refl, sym, ap, subst, ◌∙◌}
use Rattle.dsa_plan.specs.Certificate.{contents}
use Rattle.dsa_calls.specs.declared.fault.PlanFault.TheVariants.{Memory}
use Rattle.dsa_calls.specs.declared.checking.FencedFault.TheVariants.{Call}
use Rattle.dsa_calls.proofs.PiecesChecked.{only_check, refused_call}
use Rattle.dsa_operations.specs.declared.operation.Operation.{Operation}
use Rattle.dsa_lists.specs.Checking.{ChecksOperationList}
use Rattle.dsa_lists.specs.Submissions.{AreReady}
use Rattle.dsa_lists.proofs.Ready.{least_if_checked, one_operation_check, ready_checked}
use Rattle.dsa_lists.proofs.checking.check_operation_list.Goals as goal
use Rattle.dsa_lists.proofs.checking.check_operation_list.Goals.{After-drop-operations-2}

pub returns-in-Err-clause-only : goal.returns-in-Err-clause-only
returns-in-Err-clause-only c =
    let Says = ChecksOperationList c.args.list.now c.args.portal.now c.args.staging.now c.args.settings.now (contents c.args.certificate.now) in
    let told : (refused_call c.in-Err.fault ≡ refused_call Memory) ⊎ Says (refused_call c.in-Err.fault) =
    elim c.in-Err.ensures.fault [
      | inl memory ↦ inl (ap refused_call memory)
      | inr refused ↦ inr (inl (c.in-Err.fault, refused, refl))
    ] in
    only_check Says (one_operation_check c.args.list.now c.args.portal.now c.args.staging.now c.args.settings.now (contents c.args.certificate.now)) (refused_call c.in-Err.fault) told

answer : (c : After-drop-operations-2) → (c.check_pieces.result ≡ Err (Call Memory)) ⊎ ChecksOperationList c.args.list.now c.args.portal.now c.args.staging.now c.args.settings.now (contents c.args.certificate.now) c.check_pieces.result
answer c =
    let ready = subst (λ (es : List Operation). AreReady c.args.list.now c.args.settings.now es) (sym c.deref.ensures.value) c.in-Ok.ensures.ready in
    ready_checked c.args.list.now c.args.portal.now c.args.staging.now c.args.settings.now (contents c.args.certificate.now) c.deref.result.now c.deref-2.result.now c.check_pieces.result
    ready (c.deref-2.ensures.value ∙ c.in-Ok.ensures.barriers) c.check_pieces.ensures

pub returns-clause-answer : goal.returns-clause-answer
returns-clause-answer c = answer c

pub returns-clause-only : goal.returns-clause-only
returns-clause-only c =
    let Says = ChecksOperationList c.args.list.now c.args.portal.now c.args.staging.now c.args.settings.now (contents c.args.certificate.now) in
    only_check Says (one_operation_check c.args.list.now c.args.portal.now c.args.staging.now c.args.settings.now (contents c.args.certificate.now)) c.check_pieces.result (answer c)

pub returns-clause-least : goal.returns-clause-least
returns-clause-least c = least_if_checked c.args.list.now c.args.portal.now c.args.staging.now c.args.settings.now (contents c.args.certificate.now) c.check_pieces.result (answer c)
