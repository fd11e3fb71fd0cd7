-- Operations as engines work them.
use Rattle.std.specs.Prelude.{◌≡◌, ⊤, ℕ, IsSome}
use Rattle.dsa_core.specs.Order.{statuses_in_order}
use Rattle.dsa_core.specs.Work.{Work}
use Rattle.dsa_descriptor.specs.Descriptors.{fields}
use Rattle.dsa_descriptor.specs.declared.record.Record.{Record}
use Rattle.dsa_image.specs.Basics.{plain_record}
use Rattle.dsa_image.specs.Changes.{new_bytes}
use Rattle.dsa_image.specs.Effects.{record_from}
use Rattle.dsa_image.specs.Gathered.{AreReadIn}
use Rattle.dsa_image.specs.Memory.{After, Memory, changed, written}
use Rattle.dsa_image.specs.Worked.{AreWorkOf}
use Rattle.dsa_operations.specs.declared.operation.Operation.{Operation}
use Rattle.dsa_operations.specs.declared.operation.Operation.TheVariants as operation
use Rattle.dsa_core.specs.declared.inputs.OperationInputs.{OperationInputs}
use Rattle.dsa_core.specs.declared.inputs.OperationInputs.TheVariants as input
use Rattle.dsa_core.specs.declared.outputs.OperationOutputs.{OperationOutputs}
use Rattle.dsa_core.specs.declared.outputs.OperationOutputs.TheVariants as output
use Rattle.dsa_core.specs.ChecksumLines.{AreGivenBy, AreReadHere}
use Rattle.dsa_core.specs.Checksums.{checksum_status}
use Rattle.dsa_core.specs.declared.partial.OperationPartial.{OperationPartial}
use Rattle.dsa_core.specs.Operations.{executed, operation_machine}

-- what the completion record of an operation says, beside the value of a checksum
abbrev pub operation_record : Operation → OperationPartial → Record
operation_record (operation.Descriptor d) p = record_from (fields d) p.found
operation_record (operation.Checksum c) p = plain_record checksum_status

-- the operation that the inputs of a line are of
abbrev pub piece_of : OperationInputs → Operation
piece_of (input.Descriptor inputs value) = operation.Descriptor inputs.descriptor
piece_of (input.Checksum inputs found) = operation.Checksum inputs.checksum

-- the place of their line
abbrev pub place_of : OperationInputs → ℕ
place_of (input.Descriptor inputs value) = inputs.line
place_of (input.Checksum inputs found) = inputs.line

-- the partial answer before it
abbrev pub partial_of : OperationInputs → OperationPartial
partial_of (input.Descriptor inputs value) = record { found = inputs.partial; value = value }
partial_of (input.Checksum inputs found) = record { found = found; value = inputs.value }

-- the line reads these inputs in this memory
abbrev pub OperationReads : Memory → OperationInputs → Type 0
OperationReads m (input.Descriptor inputs value) = AreReadIn m inputs
OperationReads m (input.Checksum inputs found) = AreReadHere m inputs

-- the line gives these outputs from these inputs, of one kind; what the other kind has found stays
abbrev pub OperationGives : OperationInputs → OperationOutputs → Type 0
OperationGives (input.Descriptor inputs value) (output.Descriptor outputs kept) = AreWorkOf inputs outputs × (kept ≡ value)
OperationGives (input.Descriptor inputs value) (output.Checksum outputs kept) = ⊥
OperationGives (input.Checksum inputs found) (output.Descriptor outputs kept) = ⊥
OperationGives (input.Checksum inputs found) (output.Checksum outputs kept) = AreGivenBy inputs outputs × (kept ≡ found)

-- the memory with the outputs stored, and the partial answer after the line
abbrev pub operation_stored : OperationOutputs → Memory → After OperationPartial
operation_stored (output.Descriptor outputs kept) m =
    record { memory = changed m (new_bytes outputs); answer = record { found = outputs.partial; value = kept } }
operation_stored (output.Checksum outputs kept) m =
    record { memory = changed m (written outputs.at outputs.bytes.items); answer = record { found = kept; value = outputs.value } }

-- storing the outputs writes the address
abbrev pub OperationWrites : OperationOutputs → ℕ → Type 0
OperationWrites (output.Descriptor outputs kept) a = IsSome (new_bytes outputs a)
OperationWrites (output.Checksum outputs kept) a = IsSome (written outputs.at outputs.bytes.items a)

-- operations as engines work them
abbrev pub operation_work : Work Operation Operation OperationPartial OperationInputs OperationOutputs
operation_work =
    record {
      shown = λ o. o;
      machine = operation_machine;
      listed = λ o. ⊤;
      executed = executed;
      statuses = λ operations m. statuses_in_order operation_machine operations m;
      record_from = operation_record;
      piece = piece_of;
      place = place_of;
      partial = partial_of;
      reads = OperationReads;
      gives = OperationGives;
      stored = operation_stored;
      targets = OperationWrites;
    }
