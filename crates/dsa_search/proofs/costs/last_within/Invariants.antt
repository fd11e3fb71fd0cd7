use Rattle.std.proofs.Common.{ℕ, ◌-◌, ◌≤◌}
use Rattle.dsa_plan.specs.Chain.{Reaches}
use Rattle.dsa_search.proofs.costs.last_within.Given as goal

-- the chain goes on to a piece within the reach
abbrev pub invariant-loop-piece : goal.invariant-loop-piece
invariant-loop-piece l = record {
  reached : (start : ℕ) → Reaches l.pairs start l.fn.chain.1 l.fn.chain.0 → Reaches l.pairs start l.fences l.piece;
  within : l.piece ≤ l.reach;
  few : l.fences ≤ l.piece;
}

abbrev pub decreases-loop-piece : goal.decreases-loop-piece
decreases-loop-piece l = l.reach - l.piece
