use Rattle.std.proofs.Common.{◌≡◌, get_or}
use Rattle.dsa_operations.specs.declared.operation.Operation.TheVariants as operation
use Rattle.dsa_lists.proofs.ReadLists.{not_descriptors}
use Rattle.dsa_lists.proofs.read_list.descriptors_of.Goals as goal

pub returns-in-Checksum : goal.returns-in-Checksum
returns-in-Checksum c =
    let is : operation.Checksum c.in-Checksum.field-0 ≡ get_or c.args.operations.now c.loop-operation.operation-index (operation.Checksum c.in-Checksum.field-0) = rw c.in-Checksum.is at c.operation-item.is in
    not_descriptors c.args.operations.now c.loop-operation.operation-index c.in-Checksum.field-0 c.loop-operation-test.true is
