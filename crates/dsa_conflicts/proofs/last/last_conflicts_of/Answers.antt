use Rattle.std.proofs.Common.{List, length, sym, subst}
use Rattle.dsa_conflicts.specs.declared.touches.Touch.{Touch}
use Rattle.dsa_conflicts.specs.Touches.{HasTouches}
use Rattle.dsa_conflicts.proofs.last.last_conflicts_of.Goals as goal

pub lasts_by_touches-requires-clause-all : goal.lasts_by_touches-requires-clause-all
lasts_by_touches-requires-clause-all g c =
    subst (λ (xs : List Touch). HasTouches g.T.Touching.reads g.T.Touching.writes xs c.args.pieces.now (length c.args.pieces.now)) (sym c.deref.ensures.value) c.in_ok-touches.ensures.all
