use Rattle.std.proofs.Common.{ℕ, ◌<◌, ◌≤◌}
use Rattle.dsa_resume.specs.Barriers.{HasEnded}
use Rattle.dsa_resume.specs.Ended.{has_begun}
use Rattle.dsa_resume.proofs.barriers.first_begun.Given as goal

-- none so far has begun
abbrev pub invariant-loop-index : goal.invariant-loop-index
invariant-loop-index l = (j : ℕ) → l.front ≤ j → j < l.index → ¬ HasEnded has_begun l.ends j
