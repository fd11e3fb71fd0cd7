use Rattle.std.proofs.Common.{ap, ◌∙◌}
use Rattle.std.specs.Int.{w32, w64, to_le_bytes}
use Rattle.dsa_operations.specs.Fields.{ChecksumFields}
use Rattle.dsa_operations.proofs.Written.{written}
use Rattle.dsa_operations.proofs.checksum.checksum_bytes.Goals as goal

pub returns : goal.returns
returns c =
    let f : ChecksumFields = record {
      pasid = c.args.pasid;
      privileged = c.args.privileged;
      flags = c.args.flags;
      record_at = c.args.record_at;
      size = c.args.size;
      int_handle = c.args.int_handle;
      op = c.args.op.now;
    } in
    written f
    c.copy_from_slice.new.self c.copy_from_slice-2.new.self c.copy_from_slice-3.new.self c.copy_from_slice-4.new.self c.copy_from_slice-5.new.self c.copy_from_slice-6.new.self c.copy_from_slice-7.new.self
    c.copy_from_slice-8.new.self c.copy_from_slice-9.new.self
    (c.copy_from_slice.ensures.after ∙ c.to_le_bytes.ensures ∙ ap (to_le_bytes w32) c.owner_bits.ensures)
    (c.copy_from_slice-2.ensures.after ∙ c.to_le_bytes-2.ensures ∙ ap (to_le_bytes w32) c.operation_bits.ensures)
    (c.copy_from_slice-3.ensures.after ∙ c.to_le_bytes-3.ensures)
    (c.copy_from_slice-4.ensures.after ∙ c.to_le_bytes-4.ensures ∙ ap (to_le_bytes w64) c.source_field.ensures)
    (c.copy_from_slice-5.ensures.after ∙ c.to_le_bytes-5.ensures ∙ ap (to_le_bytes w64) c.destination_field.ensures)
    (c.copy_from_slice-6.ensures.after ∙ c.to_le_bytes-6.ensures)
    (c.copy_from_slice-7.ensures.after ∙ c.to_le_bytes-7.ensures)
    (c.copy_from_slice-8.ensures.after ∙ c.to_le_bytes-8.ensures ∙ ap (to_le_bytes w32) c.given_field.ensures)
    (c.copy_from_slice-9.ensures.after ∙ c.to_le_bytes-9.ensures ∙ ap (to_le_bytes w64) c.address_field.ensures)
