use Rattle.dsa_tracker.proofs.Bits.{both_set}
use Rattle.dsa_tracker.proofs.slots.Slots.intersection.Goals as goal

pub returns : goal.returns
returns c = both_set c.args.self.0 c.args.other.0
