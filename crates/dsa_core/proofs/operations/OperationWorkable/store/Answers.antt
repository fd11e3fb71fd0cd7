use Rattle.std.proofs.Common.{ℕ, subst}
use Rattle.dsa_image.specs.Memory.{Holds}
use Rattle.dsa_image.proofs.Stored.{write_held}
use Rattle.dsa_core.specs.OperationWork.{OperationWrites}
use Rattle.dsa_core.proofs.operations.OperationWorkable.store.Goals as goal

pub store-requires : goal.store-requires
store-requires c = subst (λ o. (a : ℕ) → OperationWrites o a → Holds c.args.image.now a) c.in-Descriptor.is c.requires

pub put_all-requires : goal.put_all-requires
put_all-requires c =
    let held = subst (λ o. (a : ℕ) → OperationWrites o a → Holds c.args.image.now a) c.in-Checksum.is c.requires in
    rw c.as_slice.ensures.value (write_held c.args.image.now c.in-Checksum.own.at c.in-Checksum.own.bytes.items held)
