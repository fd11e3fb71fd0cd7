-- Which operation the 64 bytes of a descriptor name, of all that a list may have, and its data.
use Rattle.std.specs.Prelude.{ℕ, List, ◌++◌, Option, Some, None}
use Rattle.dsa_descriptor.specs.declared.op.Op.{Op}
use Rattle.dsa_descriptor.specs.declared.span.Span.{Span}
use Rattle.dsa_descriptor.specs.Data.{sources, targets}
use Rattle.dsa_descriptor.specs.Places.{op_at}
use Rattle.dsa_operations.specs.declared.checksum_op.ChecksumOp.{ChecksumOp}
use Rattle.dsa_operations.specs.declared.listed_op.ListedOp.{ListedOp}
use Rattle.dsa_operations.specs.declared.listed_op.ListedOp.TheVariants.{Descriptor, Checksum}
use Rattle.dsa_operations.specs.Data as checksums
use Rattle.dsa_operations.specs.Places.{checksum_at}

-- the operation of a descriptor if there is one, else the checksum
abbrev pub either_op : Option Op → Option ChecksumOp → Option ListedOp
either_op (Some op) checksum = Some (Descriptor op)
either_op None (Some op) = Some (Checksum op)
either_op None None = None

-- the operation that the bytes name, if its code is one of those that a list may have
abbrev pub listed_op : List ℕ → Option ListedOp
listed_op bytes = either_op (op_at bytes) (checksum_at bytes)

-- what an operation of this size reads (specification 341204, operations)
abbrev pub listed_sources : ListedOp → ℕ → List Span
listed_sources (Descriptor op) size = sources op size
listed_sources (Checksum op) size = checksums.sources op size

-- what it writes beside its completion record (specification 341204, operations)
abbrev pub listed_targets : ListedOp → ℕ → List Span
listed_targets (Descriptor op) size = targets op size
listed_targets (Checksum op) size = checksums.targets op size

-- all its data ranges
abbrev pub listed_data : ListedOp → ℕ → List Span
listed_data op size = listed_sources op size ++ listed_targets op size
