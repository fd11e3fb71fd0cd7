use Rattle.std.proofs.Common.{ℕ, ◌<◌, ◌≤◌}
use Rattle.dsa_settings.specs.Legal.{IsFenced}
use Rattle.dsa_reasons.specs.Reasons.{HasReasonsSoFar}
use Rattle.dsa_reasons.proofs.reason.push_conflicts.Given as goal

-- no piece from i on and before `at` is fenced, and each of them that conflicts with `later` has a reason
abbrev pub invariant-loop-i : goal.invariant-loop-i
invariant-loop-i g l = record {
  begun : l.start ≤ l.i;
  before : l.i ≤ l.at;
  open_here : (k : ℕ) → l.i ≤ k → k < l.at → ¬ IsFenced l.start l.fences k;
  found : HasReasonsSoFar g.P.Touching.reads g.P.Touching.writes l.pieces l.start l.fences l.at l.later l.i l.reasons.items;
}

abbrev pub decreases-loop-i : goal.decreases-loop-i
decreases-loop-i g l = l.i
