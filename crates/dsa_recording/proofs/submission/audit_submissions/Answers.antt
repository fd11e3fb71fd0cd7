use Rattle.std.proofs.Common.{false, arith}
use Rattle.dsa_recording.specs.Pairs.{terms}
use Rattle.dsa_recording.proofs.Pushed.{audit_pushed, all_audited}
use Rattle.dsa_recording.proofs.submission.audit_submissions.Goals as goal

pub loop-submission-preserved : goal.loop-submission-preserved
loop-submission-preserved c =
    audit_pushed (terms c.args.accepted.now c.args.assumptions) c.args.all.now c.args.submissions.now c.loop-submission.submission-index (record { first = 0; size = 0; is_batch = false }) c.loop-submission.audits.items
    c.push.new.self.items c.in_ok-audited.audited c.loop-submission.invariant c.loop-submission-test.true c.in_ok-audited.ensures c.in_ok-push.ensures.items

pub returns : goal.returns
returns c =
    all_audited (terms c.args.accepted.now c.args.assumptions) c.args.all.now c.args.submissions.now c.loop-submission.submission-index c.loop-submission.audits.items c.loop-submission.invariant
    (omega (arith, c.loop-submission-test.false))
