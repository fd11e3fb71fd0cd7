use Rattle.std.proofs.Common.{inr, subst, sym}
use Rattle.dsa_recording.specs.Dumps.{StagesStream}
use Rattle.dsa_recording.proofs.StreamOf.{no_stream, of_stream}
use Rattle.dsa_recording.proofs.staged.audit_portal.Goals as goal

pub returns-in-Ok : goal.returns-in-Ok
returns-in-Ok c =
    of_stream c.audit_bytes.result c.args.options c.args.dumps.now c.args.portal.now c.deref.result.now
    (subst (StagesStream c.args.dumps.now c.args.portal.now) (sym c.deref.ensures.value) c.in-Ok.ensures) c.audit_bytes.ensures

pub returns-in_ok-reason-in-Err : goal.returns-in_ok-reason-in-Err
returns-in_ok-reason-in-Err c =
    inr (c.refused.ensures.refuses, no_stream c.args.dumps.now c.args.portal.now c.in-Err.fault c.in_ok-reason-in-Err.ensures c.in-Err.ensures)
