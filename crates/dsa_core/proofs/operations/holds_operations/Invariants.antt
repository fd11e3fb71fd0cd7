use Rattle.std.proofs.Common.{ℕ, ◌<◌, get_or}
use Rattle.dsa_operations.specs.declared.operation.Operation.{Operation}
use Rattle.dsa_core.specs.Machine.{HoldsPiece}
use Rattle.dsa_core.specs.Operations.{operation_machine}
use Rattle.dsa_core.proofs.operations.holds_operations.Given as goal

abbrev pub invariant-loop-operation : goal.invariant-loop-operation
invariant-loop-operation l = (k : ℕ) (d : Operation) → k < l.operation-index → HoldsPiece operation_machine l.image (get_or l.operations k d)
