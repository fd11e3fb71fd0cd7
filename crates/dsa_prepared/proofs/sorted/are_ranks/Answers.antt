use Rattle.std.proofs.Common.{below_more, slice_index, arith}
use Rattle.dsa_prepared.proofs.sorted.are_ranks.Goals as goal

pub loop-number-preserved : goal.loop-number-preserved
loop-number-preserved c =
    below_more _ _ c.loop-number.invariant (slice_index c.args.ranks.now c.loop-number.number, omega (arith, c.if-place-order.false), omega (arith, c.if-order-place.false))
