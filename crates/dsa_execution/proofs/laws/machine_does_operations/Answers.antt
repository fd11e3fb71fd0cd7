use Rattle.dsa_core.proofs.OperationSteps as laws
use Rattle.dsa_execution.proofs.laws.machine_does_operations.Goals as goal

pub returns : goal.returns
returns c = record { memory = laws.done_memory; status = laws.done_status; in_order = laws.memory_is_executed }
