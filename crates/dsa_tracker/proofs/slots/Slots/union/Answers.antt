use Rattle.dsa_tracker.proofs.Bits.{either_set}
use Rattle.dsa_tracker.proofs.slots.Slots.union.Goals as goal

pub returns : goal.returns
returns c = either_set c.args.self.0 c.args.other.0
