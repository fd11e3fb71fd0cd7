use Rattle.std.proofs.Common.{arith}
use Rattle.dsa_tracker.proofs.Bits.{minus_set}
use Rattle.dsa_tracker.proofs.slots.Slots.minus.Goals as goal

pub returns : goal.returns
returns c = λ s. minus_set c.args.self.0 c.args.other.0 s (omega arith) (omega arith)
