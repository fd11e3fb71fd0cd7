use Rattle.std.proofs.Common.{◌+◌, arith, subst, sym}
use Rattle.std.specs.Prelude.{slice_index}
use Rattle.dsa_conflicts.specs.Stamps.{IsMost}
use Rattle.dsa_conflicts.proofs.Levels.{most_more}
use Rattle.dsa_conflicts.proofs.stamps.most.Goals as goal

pub loop-place-preserved : goal.loop-place-preserved
loop-place-preserved c =
    subst (IsMost (slice_index c.args.stamps.now) c.args.from (c.loop-place.place + 1)) (sym c.max-most.ensures)
    (most_more (slice_index c.args.stamps.now) c.args.from c.loop-place.place c.loop-place.most (omega arith) c.loop-place.invariant)
