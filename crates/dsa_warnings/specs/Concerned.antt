-- Operations as those of a descriptor.
use Rattle.std.specs.Prelude.{Option, Some, None}
use Rattle.dsa_descriptor.specs.declared.descriptor.Descriptor as descriptor
use Rattle.dsa_operations.specs.declared.operation.Operation.{Operation}
use Rattle.dsa_operations.specs.declared.operation.Operation.TheVariants.{Descriptor, Checksum}

-- an operation as one of the six of a descriptor; a checksum is none of them
abbrev pub descriptor_of : Operation → Option descriptor.Descriptor
descriptor_of (Descriptor d) = Some d
descriptor_of (Checksum c) = None
