use Rattle.dsa_execution.proofs.Planned as laws
use Rattle.dsa_execution.proofs.laws.planned_operations_run.Goals as goal

pub returns : goal.returns
returns c = record { can = laws.planned_can_execute; barriers = laws.planned_keeps_barriers }
