use Rattle.std.proofs.Common.{◌≡◌, ℕ, length, Option}
use Rattle.std.specs.Prelude.{Some, slice_get}
use Rattle.dsa_ranges.specs.Pieces.{PieceConflictAt}
use Rattle.dsa_conflicts.specs.Last.{IsLastBy}
use Rattle.dsa_conflicts.proofs.Pieces.{AreStamped, Touched, Written}
use Rattle.dsa_conflicts.proofs.last.lasts_by_stamps.Given as goal

-- the pieces so far are stamped, and each of them has its last conflict
abbrev pub invariant-loop-b : goal.invariant-loop-b
invariant-loop-b g l = record {
  touching : AreStamped l.starts.items l.pieces (Touched g.T.Touching.reads g.T.Touching.writes) l.b l.touching;
  writing : AreStamped l.starts.items l.pieces (Written g.T.Touching.writes) l.b l.writing;
  filled : length l.lasts.items ≡ l.b;
  each : (k : ℕ) (last : Option ℕ) → slice_get l.lasts.items k ≡ Some last
      → IsLastBy (PieceConflictAt g.T.Touching.reads g.T.Touching.writes l.pieces) l.window k last;
}
