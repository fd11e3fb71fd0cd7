use Rattle.std.proofs.Common.{◌≡◌, ◌↔◌, true}
use Rattle.dsa_tracker.proofs.Stored.{TouchesBelow}
use Rattle.dsa_tracker.proofs.kept.touches.Given as goal

abbrev pub invariant-loop-index : goal.invariant-loop-index
invariant-loop-index l = (l.is_found ≡ true) ↔ TouchesBelow l.store l.first l.last l.index
