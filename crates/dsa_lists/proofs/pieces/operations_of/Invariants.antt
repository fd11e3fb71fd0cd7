use Rattle.std.proofs.Common.{◌≡◌, map, take}
use Rattle.dsa_operations.specs.declared.operation.Operation.TheVariants as operation
use Rattle.dsa_lists.proofs.pieces.operations_of.Given as goal

-- the descriptors so far, as operations
abbrev pub invariant-loop-k : goal.invariant-loop-k
invariant-loop-k l = l.operations.items ≡ map operation.Descriptor (take l.k l.descriptors)
