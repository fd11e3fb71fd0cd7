use Rattle.std.proofs.Common.{ap, sym, ◌∙◌, subst}
use Rattle.dsa_image.specs.Memory.{changed, written}
use Rattle.dsa_image.proofs.Stored.{write_held}
use Rattle.dsa_operations.specs.declared.operation.Operation.TheVariants.{Checksum, Descriptor}
use Rattle.dsa_operations.specs.Checksums.{checksum_fields}
use Rattle.dsa_core.specs.Checksums.{checksum_machine}
use Rattle.dsa_core.specs.Machine.{HoldsPiece}
use Rattle.dsa_core.proofs.ChecksumHeld.{line_memory, writes_held}
use Rattle.dsa_core.proofs.OperationsFit.{held_as, line_as}
use Rattle.dsa_core.proofs.operations.OperationWorkable.do_line.Goals as goal

pub do_line-requires-clause-inside : goal.do_line-requires-clause-inside
do_line-requires-clause-inside c = held_as c.args.image.now c.args.self.now (Descriptor c.in-Descriptor.d) c.in-Descriptor.is c.requires.inside

pub gather_checksum-inputs-requires-clause-inside :
    goal.gather_checksum-inputs-requires-clause-inside
gather_checksum-inputs-requires-clause-inside c = held_as c.args.image.now c.args.self.now (Checksum c.in-Checksum.c) c.in-Checksum.is c.requires.inside

pub put_all-requires : goal.put_all-requires
put_all-requires c =
    let inputs = c.gather_checksum-inputs.result in
    let outputs = c.compute_checksum.new.outputs in
    let held = held_as c.args.image.now c.args.self.now (Checksum c.in-Checksum.c) c.in-Checksum.is c.requires.inside in
    let own : HoldsPiece checksum_machine c.args.image.now (checksum_fields inputs.checksum) =
    subst (λ x. HoldsPiece checksum_machine c.args.image.now (checksum_fields x)) (sym c.gather_checksum-inputs.ensures.checksum) held in
    rw c.as_slice.ensures.value
    (write_held c.args.image.now outputs.at outputs.bytes.items (writes_held c.args.image.now inputs outputs c.compute_checksum.ensures c.gather_checksum-inputs.ensures.read own))

pub returns-in-Checksum-clause-memory : goal.returns-in-Checksum-clause-memory
returns-in-Checksum-clause-memory c =
    let inputs = c.gather_checksum-inputs.result in
    let outputs = c.compute_checksum.new.outputs in
    c.put_all.ensures
    ∙ ap (λ bytes. changed c.args.image.now (written outputs.at bytes)) c.as_slice.ensures.value
    ∙ line_memory c.args.image.now inputs outputs c.compute_checksum.ensures c.gather_checksum-inputs.ensures.read
    ∙ line_as c.args.image.now c.args.self.now c.in-Checksum.c inputs.checksum c.args.line inputs.line inputs.value c.args.partial.now c.in-Checksum.is
    c.gather_checksum-inputs.ensures.checksum c.gather_checksum-inputs.ensures.line c.gather_checksum-inputs.ensures.value
