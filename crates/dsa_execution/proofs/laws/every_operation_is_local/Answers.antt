use Rattle.dsa_core.proofs.OperationSteps.{operation_local}
use Rattle.dsa_execution.proofs.laws.every_operation_is_local.Goals as goal

pub returns : goal.returns
returns c = operation_local
