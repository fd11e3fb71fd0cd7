use Rattle.std.proofs.Common.{ℕ, ◌<◌}
use Rattle.dsa_resume.specs.Barriers.{HasEnded}
use Rattle.dsa_resume.specs.Ended.{is_open}
use Rattle.dsa_resume.proofs.barriers.first_open.Given as goal

-- all so far have succeeded
abbrev pub invariant-loop-index : goal.invariant-loop-index
invariant-loop-index l = (i : ℕ) → i < l.index → ¬ HasEnded is_open l.ends i
