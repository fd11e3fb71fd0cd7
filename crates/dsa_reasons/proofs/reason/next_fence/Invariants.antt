use Rattle.std.proofs.Common.{ℕ, ◌<◌}
use Rattle.dsa_settings.specs.Legal.{IsFenced}
use Rattle.dsa_reasons.proofs.reason.next_fence.Given as goal

abbrev pub invariant-loop-k : goal.invariant-loop-k
invariant-loop-k l = (other : ℕ) → l.at < other → other < l.k → ¬ IsFenced l.start l.fences other
