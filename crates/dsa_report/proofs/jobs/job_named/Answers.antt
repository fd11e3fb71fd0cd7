use Rattle.dsa_report.proofs.EachJob.{none_named}
use Rattle.dsa_report.proofs.jobs.job_named.Goals as goal

pub returns : goal.returns
returns c = none_named c.args.text.now c.loop-name.name-index c.loop-name-test.false c.loop-name.invariant
