use Rattle.std.proofs.Common.{length, arith}
use Rattle.dsa_waits.proofs.Placed.{placed}
use Rattle.dsa_waits.proofs.recorded.made_of.Goals as goal
use Rattle.dsa_waits.specs.Recorded.{no_submission}

pub made_with-requires-clause-head : goal.made_with-requires-clause-head
made_with-requires-clause-head c =
    let at = placed c.args.all.now 0 (length c.args.all.now) c.args.submissions.now c.loop-number.number no_submission c.requires.reads c.loop-number-test.true in
    omega (arith, at.0.head, at.0.some, at.0.ends)

pub made_with-requires-clause-within : goal.made_with-requires-clause-within
made_with-requires-clause-within c =
    let at = placed c.args.all.now 0 (length c.args.all.now) c.args.submissions.now c.loop-number.number no_submission c.requires.reads c.loop-number-test.true in
    at.0.ends
