use Rattle.std.proofs.Common.{refl}
use Rattle.dsa_tracker.proofs.Whole.{awaited_in, held_in, not_held_in}
use Rattle.dsa_tracker.proofs.words.waits.Goals as goal

pub returns-in-Some-waits_at_in : goal.returns-in-Some-waits_at_in
returns-in-Some-waits_at_in c = (c.in-Some.ensures.0, held_in c.args.words.now c.in-Some.head c.in-Some.ensures.0 c.in-Some.ensures.1 c.args.slot c.in-Some-waits_at_in.ensures.0, awaited_in c.args.words.now c.in-Some.head c.in-Some.ensures.0 c.in-Some.ensures.1 c.args.slot c.in-Some-waits_at_in.waits c.in-Some-waits_at_in.ensures)

pub returns-in-None : goal.returns-in-None
returns-in-None c = (c.in-Some.ensures.0, (refl, not_held_in c.args.words.now c.in-Some.head c.in-Some.ensures.0 c.in-Some.ensures.1 c.args.slot c.in-None.ensures))
