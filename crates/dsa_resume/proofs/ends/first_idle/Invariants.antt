use Rattle.std.proofs.Common.{ℕ, ◌<◌}
use Rattle.dsa_resume.specs.GivenUp.{IsIdle}
use Rattle.dsa_resume.proofs.ends.first_idle.Given as goal

-- each so far has failed if it is given up
abbrev pub invariant-loop-index : goal.invariant-loop-index
invariant-loop-index l = (i : ℕ) → i < l.index → ¬ IsIdle l.completions l.given_up i
