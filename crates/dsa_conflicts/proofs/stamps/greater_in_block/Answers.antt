use Rattle.std.proofs.Common.{subst, sym}
use Rattle.std.specs.Prelude.{slice_index}
use Rattle.dsa_conflicts.specs.Stamps.{IsGreater}
use Rattle.dsa_conflicts.proofs.Levels.{greater_most}
use Rattle.dsa_conflicts.proofs.stamps.greater_in_block.Goals as goal

pub returns : goal.returns
returns c =
    subst (IsGreater (slice_index c.args.places.now) c.args.from c.args.to c.args.known) (sym c.max.ensures)
    (greater_most (slice_index c.args.places.now) c.args.from c.args.to c.args.known c.most.result c.most.ensures)
