use Rattle.std.specs.Prelude.{All}
use Rattle.std.specs.List.{Contains}
use Rattle.dsa_conflicts.specs.declared.touches.Touch.{Touch}
use Rattle.dsa_conflicts.specs.Touches.{HasKind, IsTouchOf}
use Rattle.dsa_conflicts.proofs.touches.push_kind.Given as goal

-- the accesses by the pieces so far
abbrev pub invariant-loop-piece : goal.invariant-loop-piece
invariant-loop-piece g l = record {
  known : All (IsTouchOf g.T.Touching.reads g.T.Touching.writes l.pieces) l.touches.items;
  kept : (t : Touch) → Contains l.fn.touches.items t → Contains l.touches.items t;
  all : HasKind g.T.Touching.reads g.T.Touching.writes l.kind l.touches.items l.pieces l.piece;
}
