use Rattle.std.proofs.Common.{◌*◌, ◌/◌, ◌≤◌, arith}
use Rattle.std.specs.Prelude.{slice_index}
use Rattle.dsa_conflicts.proofs.Levels.{most_join}
use Rattle.dsa_conflicts.proofs.stamps.most_in_levels.Goals as goal

pub returns : goal.returns
returns c =
    let low : c.args.from ≤ c.div_ceil-first.result * 64 = omega (arith, c.div_ceil-first.ensures) in
    let high : c.args.to / 64 * 64 ≤ c.args.to = omega arith in
    most_join (slice_index c.args.places.now) (slice_index c.args.blocks.now) c.requires.sums c.args.from c.args.to c.div_ceil-first.result (c.args.to / 64) low c.if-first-end.false high c.most_in_blocks-within.result c.greater_in_block-before.result
    c.greater_in_block.result c.most_in_blocks-within.ensures c.greater_in_block-before.ensures c.greater_in_block.ensures
