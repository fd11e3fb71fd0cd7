-- Operations and descriptors with relocated addresses. `to` says where each address goes.
use Rattle.std.specs.Prelude.{ℕ, ◌≡◌, ◌+◌, ◌<◌, List}
use Rattle.std.specs.List.{AllByRecursion}
use Rattle.dsa_descriptor.specs.declared.op.Op.{Op}
use Rattle.dsa_descriptor.specs.declared.op.Op.TheVariants.{Move, Fill, Compare, ComparePattern, ApplyDelta, Dualcast}
use Rattle.dsa_descriptor.specs.declared.span.Span.{Span}
use Rattle.dsa_descriptor.specs.Fields.{Fields}
use Rattle.dsa_descriptor.specs.Spans.{span}
use Rattle.dsa_operations.specs.declared.checksum_op.ChecksumOp.{ChecksumOp}
use Rattle.dsa_operations.specs.declared.checksum_op.ChecksumOp.TheVariants.{Crc, CopyCrc}
use Rattle.dsa_operations.specs.declared.checksum_op.Seed.{Seed}
use Rattle.dsa_operations.specs.declared.checksum_op.Seed.TheVariants.{Given, At}
use Rattle.dsa_operations.specs.declared.operation.Operation.{Operation}
use Rattle.dsa_operations.specs.Fields.{ChecksumFields}
use Rattle.dsa_operations.specs.OperationFields.{OperationFields, OfDescriptor, OfChecksum, fields_spelling, operation_fields}
use Rattle.dsa_ranges.specs.Ranges.{read_spans, written_spans}

-- the operation with each of its data addresses relocated; a pattern is no address
abbrev pub relocated_op : (ℕ → ℕ) → Op → Op
relocated_op to (Move src dst) = Move (to src) (to dst)
relocated_op to (Fill pattern dst) = Fill pattern (to dst)
relocated_op to (Compare src src2 expected) = Compare (to src) (to src2) expected
relocated_op to (ComparePattern src pattern expected) = ComparePattern (to src) pattern expected
relocated_op to (ApplyDelta delta dst record_size) = ApplyDelta (to delta) (to dst) record_size
relocated_op to (Dualcast src dst dst2) = Dualcast (to src) (to dst) (to dst2)

-- the descriptor with these and the address of its completion record relocated
abbrev pub relocated_fields : (ℕ → ℕ) → Fields → Fields
relocated_fields to f = record f { record_at = to f.record_at; op = relocated_op to f.op }

-- the seed with its address relocated, if it is read from memory
abbrev pub relocated_seed : (ℕ → ℕ) → Seed → Seed
relocated_seed to (Given value) = Given value
relocated_seed to (At address) = At (to address)

-- the checksum with each of its data addresses relocated
abbrev pub relocated_checksum_op : (ℕ → ℕ) → ChecksumOp → ChecksumOp
relocated_checksum_op to (Crc src seed) = Crc (to src) (relocated_seed to seed)
relocated_checksum_op to (CopyCrc src dst seed) = CopyCrc (to src) (to dst) (relocated_seed to seed)

-- and the address of its completion record
abbrev pub relocated_checksum : (ℕ → ℕ) → ChecksumFields → ChecksumFields
relocated_checksum to f = record f { record_at = to f.record_at; op = relocated_checksum_op to f.op }

-- the fields of an operation with its addresses relocated
abbrev pub relocated_operation : (ℕ → ℕ) → OperationFields → OperationFields
relocated_operation to (OfDescriptor f) = OfDescriptor (relocated_fields to f)
relocated_operation to (OfChecksum f) = OfChecksum (relocated_checksum to f)

-- its 64 bytes
abbrev pub relocated_spelling : (ℕ → ℕ) → Operation → List ℕ
relocated_spelling to operation = fields_spelling (relocated_operation to (operation_fields operation))

-- a span of the same length from the relocated first address on
abbrev pub relocated_span : (ℕ → ℕ) → Span → Span
relocated_span to s = span (to s.first) s.len

-- no two of these addresses go to the same address
abbrev pub IsOneToOne : (ℕ → Type 0) → (ℕ → ℕ) → Type 0
IsOneToOne In to = (a b : ℕ) → In a → In b → to a ≡ to b → a ≡ b

-- each address of the span is one of these, and keeps its offset in it
abbrev pub KeepsOffsets : (ℕ → Type 0) → (ℕ → ℕ) → Span → Type 0
KeepsOffsets In to s = (k : ℕ) → k < s.len → In (s.first + k) × (to (s.first + k) ≡ to s.first + k)

-- the same of each span that the descriptor reads or writes
abbrev pub SpansKeepOffsets : (ℕ → Type 0) → (ℕ → ℕ) → Fields → Type 0
SpansKeepOffsets In to f = AllByRecursion (KeepsOffsets In to) (read_spans f) × AllByRecursion (KeepsOffsets In to) (written_spans f)

-- the same of each descriptor of a list
abbrev pub AllKeepOffsets : (ℕ → Type 0) → (ℕ → ℕ) → List Fields → Type 0
AllKeepOffsets In to fs = AllByRecursion (SpansKeepOffsets In to) fs
