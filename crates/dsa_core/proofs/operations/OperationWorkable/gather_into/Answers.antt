use Rattle.std.proofs.Common.{ap, sym, ◌∙◌}
use Rattle.dsa_descriptor.proofs.Same.{same_descriptor}
use Rattle.dsa_operations.specs.declared.operation.Operation.TheVariants.{Checksum, Descriptor}
use Rattle.dsa_core.proofs.OperationsFit.{held_as}
use Rattle.dsa_core.proofs.operations.OperationWorkable.gather_into.Goals as goal

pub gather_into-requires-clause-inside : goal.gather_into-requires-clause-inside
gather_into-requires-clause-inside c = held_as c.args.image.now c.args.self.now (Descriptor c.in-Descriptor-Descriptor.d) c.in-Descriptor-Descriptor.is-0 c.requires.inside

pub gather_checksum_into-requires-clause-inside : goal.gather_checksum_into-requires-clause-inside
gather_checksum_into-requires-clause-inside c = held_as c.args.image.now c.args.self.now (Checksum c.in-Checksum-Checksum.c) c.in-Checksum-Checksum.is-0 c.requires.inside

pub returns-in-Descriptor-Descriptor-clause-piece :
    goal.returns-in-Descriptor-Descriptor-clause-piece
returns-in-Descriptor-Descriptor-clause-piece c = ap Descriptor (same_descriptor _ _ c.gather_into.ensures.piece) ∙ sym c.in-Descriptor-Descriptor.is-0
