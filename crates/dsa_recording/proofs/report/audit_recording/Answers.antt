use Rattle.std.proofs.Common.{All, sym, subst}
use Rattle.dsa_recording.specs.Submissions.{IsWithin}
use Rattle.dsa_recording.specs.Findings.{HasAll}
use Rattle.dsa_recording.specs.Pairs.{terms}
use Rattle.dsa_recording.proofs.Within.{within, all_have}
use Rattle.dsa_recording.proofs.report.audit_recording.Goals as goal

pub audit_submissions-requires : goal.audit_submissions-requires
audit_submissions-requires c =
    subst (All (IsWithin c.as_chunks.result.0.now)) (sym c.deref.ensures.value)
    (within c.args.bytes.now c.as_chunks.result.0.now c.in-Ok.submissions.items c.as_chunks.ensures.front c.in-Ok.ensures.answer)

pub findings_of-requires : goal.findings_of-requires
findings_of-requires c =
    subst (All HasAll) (sym c.deref-2.ensures.value)
    (all_have (terms c.args.accepted.now c.args.assumptions) c.as_chunks.result.0.now c.deref.result.now c.in_ok-audits.audits.items c.in_ok-audits.ensures)
