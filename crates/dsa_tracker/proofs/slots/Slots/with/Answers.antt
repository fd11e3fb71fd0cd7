use Rattle.dsa_tracker.proofs.Bits.{set_one}
use Rattle.dsa_tracker.proofs.slots.Slots.with.Goals as goal

pub returns : goal.returns
returns c = set_one c.args.self.0 c.args.slot c.requires
