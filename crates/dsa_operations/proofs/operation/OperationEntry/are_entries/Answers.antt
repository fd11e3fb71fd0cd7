use Rattle.dsa_operations.proofs.Answered.{are_operations}
use Rattle.dsa_operations.proofs.operation.OperationEntry.are_entries.Goals as goal

pub returns : goal.returns
returns c = are_operations
