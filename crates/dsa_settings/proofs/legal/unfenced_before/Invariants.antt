use Rattle.std.proofs.Common.{ℕ, ◌<◌, ◌≤◌}
use Rattle.dsa_settings.specs.Legal.{IsFenced}
use Rattle.dsa_settings.proofs.legal.unfenced_before.Given as goal

-- no piece after i and up to `at` is fenced, and none from i on and before `at` conflicts with `at`
abbrev pub invariant-loop-i : goal.invariant-loop-i
invariant-loop-i g l = record {
  begun : l.start ≤ l.i;
  before : l.i ≤ l.at;
  unfenced : (k : ℕ) → l.i < k → k ≤ l.at → ¬ IsFenced l.start l.fences k;
  apart : (x : ℕ) → l.i ≤ x → x < l.at → ¬ g.P.Touching.conflict l.pieces x l.at;
}

abbrev pub decreases-loop-i : goal.decreases-loop-i
decreases-loop-i g l = l.i
