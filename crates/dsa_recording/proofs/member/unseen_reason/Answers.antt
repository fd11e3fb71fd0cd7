use Rattle.dsa_recording.proofs.Reasons.{first_at, none_applies}
use Rattle.dsa_recording.proofs.member.unseen_reason.Goals as goal

pub returns-then-applies : goal.returns-then-applies
returns-then-applies c =
    first_at c.args.head.now c.args.entry.now c.loop-why.why-index c.loop-why-test.true c.loop-why.invariant (c.applies.ensures.0 c.if-applies.true)

pub returns : goal.returns
returns c = none_applies c.args.head.now c.args.entry.now c.loop-why.why-index c.loop-why-test.false c.loop-why.invariant
