use Rattle.std.proofs.Common.{ℕ, ◌≢◌, ◌<◌, get_or}
use Rattle.dsa_report.specs.declared.jobs.JobName.TheVariants.{Judge}
use Rattle.dsa_report.specs.Job.{name_text}
use Rattle.dsa_report.proofs.jobs.job_named.Given as goal

-- no job so far goes by the name
abbrev pub invariant-loop-name : goal.invariant-loop-name
invariant-loop-name l = (k : ℕ) → k < l.name-index → name_text (get_or l.name-items k Judge) ≢ l.text
