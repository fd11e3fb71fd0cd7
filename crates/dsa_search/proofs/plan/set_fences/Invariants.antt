use Rattle.std.proofs.Common.{◌≡◌, ◌-◌, length}
use Rattle.dsa_search.specs.Back.{IsGroupSoFar}
use Rattle.dsa_search.proofs.plan.set_fences.Given as goal

-- the fences up to a piece of the chain are set
abbrev pub invariant-loop-piece : goal.invariant-loop-piece
invariant-loop-piece l = record {
  so_far : IsGroupSoFar l.pairs l.start l.piece l.fences;
  count : length l.fences ≡ length l.fn.fences;
}

abbrev pub decreases-loop-piece : goal.decreases-loop-piece
decreases-loop-piece l = length l.pairs - l.piece
