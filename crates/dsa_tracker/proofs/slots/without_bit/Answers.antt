use Rattle.std.proofs.Common.{arith}
use Rattle.dsa_tracker.proofs.Bits.{clear_one, lower}
use Rattle.dsa_tracker.proofs.slots.without_bit.Goals as goal

pub returns-clause-bits : goal.returns-clause-bits
returns-clause-bits c = clear_one c.args.word c.args.place (omega (arith, c.ranges.word)) c.requires

pub returns-clause-lower : goal.returns-clause-lower
returns-clause-lower c = lower c.args.word c.args.place (omega (arith, c.ranges.word)) c.requires
