use Rattle.std.proofs.Common.{subst, sym}
use Rattle.dsa_recording.specs.Inputs.{SpellsRecording}
use Rattle.dsa_recording.proofs.Inputs.{of_bytes}
use Rattle.dsa_recording.proofs.input.audit.Goals as goal

pub returns-in-Ok : goal.returns-in-Ok
returns-in-Ok c =
    let given = rw c.in-Ok.is at c.in_ok-bytes.ensures in
    of_bytes c.audit_entries-in-Ok.result c.args.options c.args.input.now c.deref.result.now
    (subst (SpellsRecording c.args.input.now) (sym c.deref.ensures.value) given) c.audit_entries-in-Ok.ensures
