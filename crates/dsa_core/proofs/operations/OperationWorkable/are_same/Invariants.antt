use Rattle.std.proofs.Common.{◌≡◌, ◌<◌, ℕ, map, slice_get}
use Rattle.dsa_operations.specs.declared.operation.Operation.{Operation}
use Rattle.dsa_core.proofs.operations.OperationWorkable.are_same.Given as goal

abbrev pub invariant-loop-i : goal.invariant-loop-i
invariant-loop-i l = (k : ℕ) → k < l.i → slice_get (map (λ (o : Operation). o) l.a) k ≡ slice_get (map (λ (o : Operation). o) l.b) k
