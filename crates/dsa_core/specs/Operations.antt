-- Operations as pieces of work, and what they leave one after another.
use Rattle.std.specs.Prelude.{ℕ, List, fold}
use Rattle.dsa_core.specs.DescriptorMachine.{descriptor_machine}
use Rattle.dsa_core.specs.Machine.{Machine}
use Rattle.dsa_descriptor.specs.Descriptors.{fields}
use Rattle.dsa_descriptor.specs.Spans.{InSome}
use Rattle.dsa_image.specs.declared.partial.Partial.{Partial}
use Rattle.dsa_image.specs.Effects.{completion, done}
use Rattle.dsa_image.specs.Memory.{After, Memory}
use Rattle.dsa_operations.specs.declared.operation.Operation.{Operation}
use Rattle.dsa_operations.specs.declared.operation.Operation.TheVariants.{Checksum, Descriptor}
use Rattle.dsa_operations.specs.Checksums.{checksum_fields}
use Rattle.dsa_operations.specs.Operations.{reads_of, writes_of}
use Rattle.dsa_core.specs.declared.partial.OperationPartial.{OperationPartial}
use Rattle.dsa_core.specs.Checksums.{checksum_done, checksum_machine, checksum_status}

-- ---- whole operations

-- memory after an operation and its completion record
abbrev pub operation_done : Operation → Memory → Memory
operation_done (Descriptor d) m = done (fields d) m
operation_done (Checksum c) m = checksum_done (checksum_fields c) m

-- the status of its completion record
abbrev pub operation_status : Operation → Memory → ℕ
operation_status (Descriptor d) m = (completion (fields d) m).status
operation_status (Checksum c) m = checksum_status

-- memory after the operations, one after another, whatever their statuses
abbrev pub executed : List Operation → Memory → Memory
executed operations m = fold (λ before operation. operation_done operation before) m operations

-- ---- operations as pieces of work

-- how many lines an operation has
abbrev pub operation_lines : Operation → ℕ
operation_lines (Descriptor d) = descriptor_machine.lines (fields d)
operation_lines (Checksum c) = checksum_machine.lines (checksum_fields c)

-- a step of a descriptor, as one of operations
abbrev pub after_descriptor : OperationPartial → After Partial → After OperationPartial
after_descriptor p after = record { memory = after.memory; answer = record p { found = after.answer } }

-- a step of a checksum, as one of operations
abbrev pub after_checksum : OperationPartial → After ℕ → After OperationPartial
after_checksum p after = record { memory = after.memory; answer = record p { value = after.answer } }

-- the line at turn t of an operation
abbrev pub operation_line : Operation → ℕ → Memory → OperationPartial → After OperationPartial
operation_line (Descriptor d) t m p = after_descriptor p (descriptor_machine.line (fields d) t m p.found)
operation_line (Checksum c) t m p = after_checksum p (checksum_machine.line (checksum_fields c) t m p.value)

-- how an operation finishes
abbrev pub operation_finish : Operation → Memory → OperationPartial → After ℕ
operation_finish (Descriptor d) m p = descriptor_machine.finish (fields d) m p.found
operation_finish (Checksum c) m p = checksum_machine.finish (checksum_fields c) m p.value

-- an operation is done as the machine of its kind does it
abbrev pub operation_machine : Machine Operation OperationPartial
operation_machine =
    record {
      start = record { found = descriptor_machine.start; value = checksum_machine.start };
      reads = λ o a. InSome (reads_of o) a;
      writes = λ o a. InSome (writes_of o) a;
      lines = operation_lines;
      line = operation_line;
      finish = operation_finish;
    }
