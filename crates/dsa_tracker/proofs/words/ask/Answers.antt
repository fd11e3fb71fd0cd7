use Rattle.dsa_tracker.proofs.Parted.{state_of}
use Rattle.dsa_tracker.proofs.words.ask.Goals as goal

pub returns : goal.returns
returns c = (c.in-Some.ensures.0, λ tracker. c.conflicts_in.ensures (state_of c.args.words.now c.in-Some.head c.in-Some.ensures.1 tracker))
