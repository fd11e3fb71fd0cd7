use Rattle.std.proofs.Common.{◌≡◌, ◌⊎◌, inl, inr, Bool, List, Err, refl, sym, ap, subst}
use Rattle.dsa_descriptor.specs.declared.descriptor.Descriptor.{Descriptor}
use Rattle.dsa_plan.specs.Certificate.{contents}
use Rattle.dsa_calls.specs.declared.fault.PlanFault.TheVariants.{Memory}
use Rattle.dsa_calls.specs.declared.checking.FencedFault.TheVariants.{Call}
use Rattle.dsa_calls.specs.Fenced.{AreFencedPieces}
use Rattle.dsa_calls.specs.FencedChecked.{ChecksFenced}
use Rattle.dsa_calls.proofs.FencedChecked.{least_if_ok, one_fenced_check, pieces_checked}
use Rattle.dsa_calls.proofs.PiecesChecked.{only_check, refused_call}
use Rattle.dsa_calls.proofs.checking.check_fenced_list.Goals as goal
use Rattle.dsa_calls.proofs.checking.check_fenced_list.Goals.{After-drop-marked-2}

pub returns-in-Err-clause-only : goal.returns-in-Err-clause-only
returns-in-Err-clause-only c =
    let told : (refused_call c.in-Err.fault ≡ refused_call Memory) ⊎ ChecksFenced c.args.list.now c.args.portal.now c.args.staging.now c.args.settings.now (contents c.args.certificate.now) (refused_call c.in-Err.fault) =
    elim c.in-Err.ensures.fault [
      | inl memory ↦ inl (ap refused_call memory)
      | inr refused ↦ inr (inl (c.in-Err.fault, refused, refl))
    ] in
    let Says = ChecksFenced c.args.list.now c.args.portal.now c.args.staging.now c.args.settings.now (contents c.args.certificate.now) in
    only_check Says (one_fenced_check c.args.list.now c.args.portal.now c.args.staging.now c.args.settings.now (contents c.args.certificate.now)) (refused_call c.in-Err.fault) told

answer : (c : After-drop-marked-2) → (c.check_pieces.result ≡ Err (Call Memory)) ⊎ ChecksFenced c.args.list.now c.args.portal.now c.args.staging.now c.args.settings.now (contents c.args.certificate.now) c.check_pieces.result
answer c =
    let list = c.args.list.now in
    let s = c.args.settings.now in
    let shown = subst (λ (ds : List Descriptor). AreFencedPieces list s ds c.in-Ok.marked.barriers.items) (sym c.deref.ensures.value) c.in-Ok.ensures.found in
    let are = subst (λ (marks : List Bool). AreFencedPieces list s c.deref.result.now marks) (sym c.deref-2.ensures.value) shown in
    pieces_checked list c.args.portal.now c.args.staging.now s (contents c.args.certificate.now) c.deref.result.now c.deref-2.result.now c.check_pieces.result are c.check_pieces.ensures

pub returns-clause-answer : goal.returns-clause-answer
returns-clause-answer c = answer c

pub returns-clause-only : goal.returns-clause-only
returns-clause-only c =
    let Says = ChecksFenced c.args.list.now c.args.portal.now c.args.staging.now c.args.settings.now (contents c.args.certificate.now) in
    only_check Says (one_fenced_check c.args.list.now c.args.portal.now c.args.staging.now c.args.settings.now (contents c.args.certificate.now)) c.check_pieces.result (answer c)

pub returns-clause-least : goal.returns-clause-least
returns-clause-least c = least_if_ok c.args.list.now c.args.portal.now c.args.staging.now c.args.settings.now (contents c.args.certificate.now) c.check_pieces.result (answer c)
