use Rattle.std.proofs.Common.{ℕ, ◌<◌}
use Rattle.dsa_resume.specs.Barriers.{HasEnded}
use Rattle.dsa_resume.specs.Ended.{stops}
use Rattle.dsa_resume.proofs.barriers.first_stop.Given as goal

-- none so far stops what comes after a barrier
abbrev pub invariant-loop-index : goal.invariant-loop-index
invariant-loop-index l = (i : ℕ) → i < l.index → ¬ HasEnded stops l.ends i
