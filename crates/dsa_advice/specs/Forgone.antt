-- What a piece that is given up was to write, for private clauses.
use Rattle.std.specs.Prelude.{List, drop}
use Rattle.dsa_descriptor.specs.declared.span.Span.{Span}
use Rattle.dsa_operations.specs.declared.operation.Operation.{Operation}
use Rattle.dsa_operations.specs.declared.operation.Operation.TheVariants.{Descriptor, Checksum}
use Rattle.dsa_operations.specs.Operations.{writes_of}

-- its data; and the record of a checksum, which has its value
abbrev pub lost_writes : Operation → List Span
lost_writes (Descriptor d) = drop 1 (writes_of (Descriptor d))
lost_writes (Checksum c) = writes_of (Checksum c)
