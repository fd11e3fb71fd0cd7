use Rattle.dsa_recording.proofs.Pushed.{kind_pushed}
use Rattle.dsa_recording.proofs.findings.push_kinds.Goals as goal

pub loop-found-preserved : goal.loop-found-preserved
loop-found-preserved c =
    kind_pushed c.args.submission c.args.place c.args.kinds.now c.loop-found.found-index c.args.findings.now.items c.loop-found.findings.items
    c.push_finding.new.findings.items c.loop-found-test.true c.loop-found.invariant c.in_ok-push_finding.ensures
