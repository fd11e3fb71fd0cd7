use Rattle.dsa_calls.proofs.Histories.{planned_runs_leave_whole}
use Rattle.dsa_calls.proofs.laws.planned_runs_leave_whole.Goals as goal

pub returns : goal.returns
returns c = planned_runs_leave_whole
