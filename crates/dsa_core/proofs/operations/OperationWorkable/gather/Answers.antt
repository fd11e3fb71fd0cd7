use Rattle.std.proofs.Common.{ap, sym, ◌∙◌}
use Rattle.dsa_descriptor.proofs.Same.{same_descriptor}
use Rattle.dsa_operations.specs.declared.operation.Operation.TheVariants.{Checksum, Descriptor}
use Rattle.dsa_core.proofs.OperationsFit.{held_as}
use Rattle.dsa_core.proofs.operations.OperationWorkable.gather.Goals as goal

pub gather-requires-clause-inside : goal.gather-requires-clause-inside
gather-requires-clause-inside c = held_as c.args.image.now c.args.self.now (Descriptor c.in-Descriptor.d) c.in-Descriptor.is c.requires.inside

pub gather_checksum-requires-clause-inside : goal.gather_checksum-requires-clause-inside
gather_checksum-requires-clause-inside c = held_as c.args.image.now c.args.self.now (Checksum c.in-Checksum.c) c.in-Checksum.is c.requires.inside

pub returns-in-Descriptor-clause-piece : goal.returns-in-Descriptor-clause-piece
returns-in-Descriptor-clause-piece c = ap Descriptor (same_descriptor _ _ c.gather.ensures.piece) ∙ sym c.in-Descriptor.is
