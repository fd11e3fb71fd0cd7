use Rattle.std.proofs.Common.{◌≡◌, map, take}
use Rattle.dsa_operations.specs.declared.operation.Operation.TheVariants as operation
use Rattle.dsa_lists.proofs.read_list.descriptors_of.Given as goal

-- those so far are descriptors
abbrev pub invariant-loop-operation : goal.invariant-loop-operation
invariant-loop-operation l = take l.operation-index l.operations ≡ map operation.Descriptor l.descriptors.items
