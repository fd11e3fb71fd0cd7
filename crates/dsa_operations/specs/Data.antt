-- The memory that a checksum reads and writes.
use Rattle.std.specs.Prelude.{ℕ, List, [], ◌∷◌, ◌++◌}
use Rattle.dsa_descriptor.specs.declared.span.Span.{Span}
use Rattle.dsa_descriptor.specs.Spans.{span}
use Rattle.dsa_descriptor.specs.Data.{record_span}
use Rattle.dsa_operations.specs.declared.checksum_op.ChecksumOp.{ChecksumOp}
use Rattle.dsa_operations.specs.declared.checksum_op.ChecksumOp.TheVariants.{Crc, CopyCrc}
use Rattle.dsa_operations.specs.declared.checksum_op.Seed.{Seed}
use Rattle.dsa_operations.specs.declared.checksum_op.Seed.TheVariants.{Given, At}
use Rattle.dsa_operations.specs.Fields.{ChecksumFields}
use Rattle.dsa_operations.specs.Operands.{seed_of, source_field}

-- the four bytes of a seed that is read from memory (specification 341204, CRC generation)
abbrev pub seed_spans : Seed → List Span
seed_spans (Given value) = []
seed_spans (At address) = span address 4 ∷ []

-- what an operation of this size reads: the source, then the seed (specification 341204, CRC generation and copy with CRC)
abbrev pub sources : ChecksumOp → ℕ → List Span
sources op size = span (source_field op) size ∷ seed_spans (seed_of op)

-- what it writes beside its completion record (specification 341204, CRC generation and copy with CRC)
abbrev pub targets : ChecksumOp → ℕ → List Span
targets (Crc src seed) size = []
targets (CopyCrc src dst seed) size = span dst size ∷ []

-- all its data ranges
abbrev pub data_of : ChecksumOp → ℕ → List Span
data_of op size = sources op size ++ targets op size

-- all that a checksum reads
abbrev pub checksum_reads : ChecksumFields → List Span
checksum_reads f = sources f.op f.size

-- all that it writes: the 32 bytes of its completion record, and the destination
abbrev pub checksum_writes : ChecksumFields → List Span
checksum_writes f = record_span f.record_at ∷ targets f.op f.size
