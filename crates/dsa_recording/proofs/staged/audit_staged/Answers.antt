use Rattle.std.proofs.Common.{subst, sym}
use Rattle.dsa_recording.specs.Inputs.{SpellsRecording}
use Rattle.dsa_recording.proofs.StreamOf.{of_portal}
use Rattle.dsa_recording.proofs.staged.audit_staged.Goals as goal

pub returns-in-Ok : goal.returns-in-Ok
returns-in-Ok c =
    let given = rw c.in-Ok.is at c.in_ok-portal.ensures in
    of_portal c.audit_portal-in-Ok.result c.args.options c.args.dumps.now c.args.input.now c.deref.result.now
    (subst (SpellsRecording c.args.input.now) (sym c.deref.ensures.value) given) c.audit_portal-in-Ok.ensures
