use Rattle.std.proofs.Common.{◌*◌, ◌/◌, ◌≤◌, arith}
use Rattle.std.specs.Prelude.{slice_index}
use Rattle.dsa_conflicts.specs.Stamps.{join}
use Rattle.dsa_conflicts.proofs.Levels.{cover_join, cover_low, joined_most}
use Rattle.dsa_conflicts.proofs.stamps.cover_levels.Goals as goal

pub returns : goal.returns
returns c =
    let low : c.args.from ≤ c.div_ceil-first.result * 64 = omega (arith, c.div_ceil-first.ensures) in
    let high : c.args.to / 64 * 64 ≤ c.args.to = omega arith in
    cover_join (slice_index c.args.places.now) (join (slice_index c.args.blocks.now) (slice_index c.args.tops.now)) c.args.from c.args.to c.args.stamp c.requires.most c.div_ceil-first.result (c.args.to / 64) low c.if-first-end.false high
    (slice_index c.cover-2.new.stamps) (slice_index c.cover-3.new.stamps) (join (slice_index c.cover_blocks.new.places) (slice_index c.cover_blocks.new.blocks)) c.cover-2.ensures c.cover-3.ensures c.cover_blocks.ensures

pub cover_blocks-requires-clause-most : goal.cover_blocks-requires-clause-most
cover_blocks-requires-clause-most c = joined_most (slice_index c.args.places.now) (join (slice_index c.args.blocks.now) (slice_index c.args.tops.now)) c.args.stamp c.requires.most

pub returns-then-first-end : goal.returns-then-first-end
returns-then-first-end c =
    cover_low (slice_index c.args.places.now) (join (slice_index c.args.blocks.now) (slice_index c.args.tops.now)) c.args.from c.args.to c.args.stamp c.requires.most (slice_index c.cover.new.stamps) c.cover.ensures

pub cover_blocks-requires-clause-blocks : goal.cover_blocks-requires-clause-blocks
cover_blocks-requires-clause-blocks c = c.requires.tops
