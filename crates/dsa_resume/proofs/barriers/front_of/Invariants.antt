use Rattle.std.proofs.Common.{ℕ, ◌<◌}
use Rattle.dsa_settings.specs.Barriers.{IsBarrier}
use Rattle.dsa_resume.proofs.barriers.front_of.Given as goal

-- no barrier so far is after the first piece that has not succeeded
abbrev pub invariant-loop-end : goal.invariant-loop-end
invariant-loop-end l = (k : ℕ) → l.unfinished < k → k < l.end → ¬ IsBarrier l.barriers k
