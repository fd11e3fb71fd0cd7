use Rattle.std.proofs.Common.{◌≡◌, map, sym, ◌∙◌}
use Rattle.dsa_operations.specs.declared.operation.Operation.TheVariants as operation
use Rattle.dsa_lists.proofs.ReadLists.{owner_as_descriptors}
use Rattle.dsa_lists.proofs.read_list.descriptors_in.Goals as goal

pub with_barriers-requires-clause-owner : goal.with_barriers-requires-clause-owner
with_barriers-requires-clause-owner c =
    let is : c.deref.result.now ≡ map operation.Descriptor c.in-Some.descriptors.items = rw c.in-Some.is at c.in_ok-descriptors.ensures in
    owner_as_descriptors c.args.list.now.entries.items c.in-Some.descriptors.items (sym c.deref.ensures.value ∙ is) c.args.list.now.one_owner
