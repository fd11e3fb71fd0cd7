use Rattle.dsa_operations.specs.declared.operation.Operation.TheVariants.{Checksum, Descriptor}
use Rattle.dsa_core.proofs.OperationsFit.{held_as}
use Rattle.dsa_core.proofs.operations.OperationWorkable.finish.Goals as goal

pub finish-requires : goal.finish-requires
finish-requires c = held_as c.args.image.now c.args.self.now (Descriptor c.in-Descriptor.d) c.in-Descriptor.is c.requires

pub finish_checksum-requires : goal.finish_checksum-requires
finish_checksum-requires c = held_as c.args.image.now c.args.self.now (Checksum c.in-Checksum.c) c.in-Checksum.is c.requires
