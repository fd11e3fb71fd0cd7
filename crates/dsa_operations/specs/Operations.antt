-- Operations of a list: their spelling, what they read and write, and when two of them conflict.
use Rattle.std.specs.Prelude.{ℕ, List}
use Rattle.dsa_descriptor.specs.declared.span.Span.{Span}
use Rattle.dsa_ranges.specs.Pieces.{Kind, PieceConflictAt, kind_of}
use Rattle.dsa_operations.specs.declared.operation.Operation.{Operation}
use Rattle.dsa_operations.specs.declared.operation.Operation.TheVariants.{Descriptor, Checksum}
use Rattle.dsa_operations.specs.Faults.{OperationKeeps}
use Rattle.dsa_operations.specs.OperationFields.{fields_reads, fields_spelling, fields_writes, operation_fields}

-- the 64 bytes of an operation (specification 341204, descriptor format)
abbrev pub spelling_of : Operation → List ℕ
spelling_of operation = fields_spelling (operation_fields operation)

-- all that an operation reads
abbrev pub reads_of : Operation → List Span
reads_of operation = fields_reads (operation_fields operation)

-- all that it writes, its completion record first
abbrev pub writes_of : Operation → List Span
writes_of operation = fields_writes (operation_fields operation)

-- the operations at two places of a list conflict: some address is written by one of the two and read or written by the
-- other (this project's choice, as for descriptors)
abbrev pub OperationConflictAt : List Operation → ℕ → ℕ → Type 0
OperationConflictAt operations = PieceConflictAt reads_of writes_of operations

-- the transfer size of an operation (specification 341204, descriptor format)
abbrev pub size_of : Operation → ℕ
size_of (Descriptor d) = d.size
size_of (Checksum c) = c.size

-- what a plan has to know of operations
abbrev pub operation_kind : Kind Operation
operation_kind = kind_of spelling_of OperationKeeps size_of reads_of writes_of
