-- Operations as pieces of work, for what doing the rest of a stopped list leaves.
use Rattle.std.specs.Prelude.{◌≡◌, ℕ, List}
use Rattle.dsa_descriptor.specs.Spans.{InSome}
use Rattle.dsa_image.specs.Memory.{Memory}
use Rattle.dsa_operations.specs.declared.operation.Operation.{Operation}
use Rattle.dsa_operations.specs.declared.operation.Operation.TheVariants.{Checksum, Descriptor}
use Rattle.dsa_operations.specs.Checksums.{checksum_fields}
use Rattle.dsa_operations.specs.Data.{checksum_writes}
use Rattle.dsa_operations.specs.Operations.{OperationConflictAt, reads_of, writes_of}
use Rattle.dsa_resume.specs.Work.{Work, descriptor_overwrites, in_order}
use Rattle.dsa_core.specs.Operations.{executed, operation_done}

-- an operation that is done writes a new byte to the address: a checksum wherever it writes, its completion record and a copy
abbrev pub operation_overwrites : Operation → Memory → ℕ → Type 0
operation_overwrites (Descriptor d) m a = descriptor_overwrites d m a
operation_overwrites (Checksum c) m a = InSome (checksum_writes (checksum_fields c)) a

-- operations as pieces of work
abbrev pub operation_work : Work Operation
operation_work =
    record { reads = reads_of; writes = writes_of; conflict = OperationConflictAt; overwrites = operation_overwrites; done = operation_done }

-- operations in order leave what executing them leaves
abbrev pub OperationsInOrder : Type 0
OperationsInOrder = (operations : List Operation) (m : Memory) → in_order operation_work operations m ≡ executed operations m
