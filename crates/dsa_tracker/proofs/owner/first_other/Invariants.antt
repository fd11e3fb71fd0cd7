use Rattle.std.proofs.Common.{◌≡◌, ℕ, ◌<◌, Some, slice_get}
use Rattle.dsa_tracker.proofs.owner.first_other.Given as goal

abbrev pub invariant-loop-index : goal.invariant-loop-index
invariant-loop-index g l = (k : ℕ) (p : _) → k < l.index → slice_get l.pieces k ≡ Some p → l.owner ≡ Some (g.P.Tracked.owner p)
