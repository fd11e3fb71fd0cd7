use Rattle.std.proofs.Common.{subst}
use Rattle.dsa_core.specs.Machine.{HoldsPiece}
use Rattle.dsa_core.specs.OperationWork.{piece_of}
use Rattle.dsa_core.specs.Operations.{operation_machine}
use Rattle.dsa_core.proofs.operations.OperationWorkable.still_reads.Goals as goal

pub still_reads-requires : goal.still_reads-requires
still_reads-requires c = subst (λ i. HoldsPiece operation_machine c.args.image.now (piece_of i)) c.in-Descriptor.is c.requires

pub still_reads_checksum-requires : goal.still_reads_checksum-requires
still_reads_checksum-requires c = subst (λ i. HoldsPiece operation_machine c.args.image.now (piece_of i)) c.in-Checksum.is c.requires
