-- The work of a line of a checksum, apart from the memory.
use Rattle.std.specs.Prelude.{◌≡◌, ℕ, ◌+◌, ◌*◌, List, []}
use Rattle.dsa_checksum.specs.Checksum.{checksum}
use Rattle.dsa_image.specs.Memory.{Memory}
use Rattle.dsa_image.specs.Parts.{line_width}
use Rattle.dsa_image.specs.Reads.{source_part}
use Rattle.dsa_operations.specs.declared.checksum_op.ChecksumOp.{ChecksumOp}
use Rattle.dsa_operations.specs.declared.checksum_op.ChecksumOp.TheVariants.{Crc, CopyCrc}
use Rattle.dsa_operations.specs.Checksums.{checksum_fields, variant_of}
use Rattle.dsa_operations.specs.Operands.{source_field}
use Rattle.dsa_core.specs.declared.inputs.ChecksumInputs.{ChecksumInputs}
use Rattle.dsa_core.specs.declared.outputs.ChecksumOutputs.{ChecksumOutputs}
use Rattle.dsa_core.specs.Checksums.{value_before}

-- the inputs are what the line reads in this memory: the value that it goes on from, and its part of the source
pub record AreReadHere (m : Memory) (i : ChecksumInputs) : Type 0 where
  pub begun : i.begun ≡ value_before (checksum_fields i.checksum) i.line m i.value
  pub source : i.bytes.items ≡ source_part m (source_field i.checksum.op) i.checksum.size i.line

-- the address to which the line at turn t copies its part of the source
abbrev pub copy_at : ChecksumOp → ℕ → ℕ
copy_at (Crc src seed) t = 0
copy_at (CopyCrc src dst seed) t = dst + line_width * t

-- the bytes that a line writes of its part of the source: all of a copy
abbrev pub copied_bytes : ChecksumOp → List ℕ → List ℕ
copied_bytes (Crc src seed) bytes = []
copied_bytes (CopyCrc src dst seed) bytes = bytes

-- the outputs are what the line gives from the inputs: the value after it, and the bytes that it writes
pub record AreGivenBy (i : ChecksumInputs) (o : ChecksumOutputs) : Type 0 where
  pub value : o.value ≡ checksum (variant_of (checksum_fields i.checksum)) i.begun i.bytes.items
  pub at : o.at ≡ copy_at i.checksum.op i.line
  pub bytes : o.bytes.items ≡ copied_bytes i.checksum.op i.bytes.items
