use Rattle.dsa_execution.proofs.SampleRun as laws
use Rattle.dsa_execution.proofs.laws.sample_runs_hold.Goals as goal

pub returns : goal.returns
returns c = record { can = laws.they_can_execute; leaves = laws.every_run_leaves_the_value }
