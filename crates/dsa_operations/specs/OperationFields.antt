-- The fields of an operation, whether a list may have it or not.
use Rattle.std.specs.Prelude.{ℕ, List}
use Rattle.std.specs.List.{flat_map}
use Rattle.dsa_descriptor.specs.declared.span.Span.{Span}
use Rattle.dsa_descriptor.specs.Descriptors.{fields}
use Rattle.dsa_descriptor.specs.Fields.{Fields}
use Rattle.dsa_descriptor.specs.Profile.{IsListed}
use Rattle.dsa_descriptor.specs.Spelling.{spelling}
use Rattle.dsa_ranges.specs.Ranges.{read_spans, written_spans}
use Rattle.dsa_operations.specs.declared.operation.Operation.{Operation}
use Rattle.dsa_operations.specs.declared.operation.Operation.TheVariants.{Descriptor, Checksum}
use Rattle.dsa_operations.specs.Checksums.{checksum_fields}
use Rattle.dsa_operations.specs.Data.{checksum_reads, checksum_writes}
use Rattle.dsa_operations.specs.Fields.{ChecksumFields}
use Rattle.dsa_operations.specs.Profile.{IsListedChecksum}
use Rattle.dsa_operations.specs.Spelling.{checksum_spelling}

-- those of a descriptor, or those of a checksum
pub data OperationFields : Type 0 where
  OfDescriptor : (f : Fields) → OperationFields
  OfChecksum : (f : ChecksumFields) → OperationFields

-- the fields that an operation has
abbrev pub operation_fields : Operation → OperationFields
operation_fields (Descriptor d) = OfDescriptor (fields d)
operation_fields (Checksum c) = OfChecksum (checksum_fields c)

-- their 64 bytes (specification 341204, descriptor format)
abbrev pub fields_spelling : OperationFields → List ℕ
fields_spelling (OfDescriptor f) = spelling f
fields_spelling (OfChecksum f) = checksum_spelling f

-- the bytes of several, one after another
abbrev pub all_spelled : List OperationFields → List ℕ
all_spelled fs = flat_map fields_spelling fs

-- all that an operation with these fields reads (specification 341204, operations)
abbrev pub fields_reads : OperationFields → List Span
fields_reads (OfDescriptor f) = read_spans f
fields_reads (OfChecksum f) = checksum_reads f

-- all that it writes, its completion record first (specification 341204, operations)
abbrev pub fields_writes : OperationFields → List Span
fields_writes (OfDescriptor f) = written_spans f
fields_writes (OfChecksum f) = checksum_writes f

-- a list may have them
abbrev pub AreListedFields : OperationFields → Type 0
AreListedFields (OfDescriptor f) = IsListed f
AreListedFields (OfChecksum f) = IsListedChecksum f
