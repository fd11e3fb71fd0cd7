use Rattle.std.proofs.Common.{◌^◌, ◌<◌, arith}
use Rattle.dsa_tracker.proofs.Bits.{lowest}
use Rattle.dsa_tracker.proofs.slots.Slots.take_first.Goals as goal

pub returns : goal.returns
returns c =
    let apart = c.if-self-eq0.false in
    let small : c.args.self.now.0 < 2 ^ 64 = omega arith in
    let found = lowest c.args.self.now.0 (omega (arith, apart)) small in
    (found.0, found.1, c.without_bit-self.ensures.bits, c.without_bit-self.ensures.lower found.1)
