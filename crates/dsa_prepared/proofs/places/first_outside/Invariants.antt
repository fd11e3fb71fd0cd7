use Rattle.std.proofs.Common.{◌≡◌, ℕ, ◌<◌, Some, slice_get}
use Rattle.dsa_operations.specs.declared.operation.Operation.{Operation}
use Rattle.dsa_prepared.specs.Regions.{OperationLies}
use Rattle.dsa_prepared.proofs.places.first_outside.Given as goal

abbrev pub invariant-loop-i : goal.invariant-loop-i
invariant-loop-i l = (j : ℕ) (o : Operation) → j < l.i → slice_get l.operations j ≡ Some o → OperationLies l.regions l.greatest o
