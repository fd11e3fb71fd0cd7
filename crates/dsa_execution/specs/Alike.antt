-- Operations that are all descriptors do what these do as a list of descriptors.
use Rattle.std.specs.Prelude.{◌≡◌, ◌↔◌, ℕ, List, map}
use Rattle.dsa_core.specs.declared.event.Event.{Event}
use Rattle.dsa_core.specs.PieceRuns.{CanRun, IsCompleteRun}
use Rattle.dsa_core.specs.Run.{Progress, State}
use Rattle.dsa_core.specs.Run.Progress.{Finished, Taken, Waiting}
use Rattle.dsa_descriptor.specs.declared.descriptor.Descriptor.{Descriptor}
use Rattle.dsa_descriptor.specs.Descriptors.{fields}
use Rattle.dsa_image.specs.declared.partial.Partial.{Partial}
use Rattle.dsa_image.specs.Effects.{fold_done, statuses}
use Rattle.dsa_image.specs.Memory.{Memory}
use Rattle.dsa_operations.specs.declared.operation.Operation.{Operation}
use Rattle.dsa_operations.specs.declared.operation.Operation.TheVariants as operation
use Rattle.dsa_settings.specs.Plan.{Plan}
use Rattle.dsa_execution.specs.Headline.{CanExecute, IsExecution, statuses_of}
use Rattle.dsa_core.specs.declared.partial.OperationPartial.{OperationPartial}
use Rattle.dsa_core.specs.Operations.{executed}

-- descriptors as operations
abbrev pub as_operations : List Descriptor → List Operation
as_operations ds = map operation.Descriptor ds

-- the partial answer of a descriptor, as that of an operation
abbrev pub as_partial : Partial → OperationPartial
as_partial found = record { found = found; value = 0 }

-- and its progress
abbrev pub as_progress : Progress Partial → Progress OperationPartial
as_progress Waiting = Waiting
as_progress (Taken engine lines_done found) = Taken engine lines_done (as_partial found)
as_progress (Finished status) = Finished status

-- a state of descriptors, as one of operations
abbrev pub as_state : State Partial → State OperationPartial
as_state s = record { memory = s.memory; progress = map as_progress s.progress }

-- they leave the same memory when they are executed in order
abbrev pub SameMemory : Type 0
SameMemory = (ds : List Descriptor) (m : Memory) → executed (as_operations ds) m ≡ fold_done (map fields ds) m

-- with the same statuses
abbrev pub SameStatuses : Type 0
SameStatuses = (ds : List Descriptor) (m : Memory) → statuses_of (as_operations ds) m ≡ statuses (map fields ds) m

-- their runs require the same
abbrev pub SamePremises : Type 0
SamePremises =
    (greatest_batch : ℕ) (ds : List Descriptor) (plan : Plan) (m : Memory) →
    CanExecute greatest_batch (as_operations ds) plan m ↔ CanRun greatest_batch (map fields ds) plan m

-- and their complete runs are the same, event for event
abbrev pub SameRuns : Type 0
SameRuns =
    (ds : List Descriptor) (plan : Plan) (m : Memory) (engines : ℕ) (events : List Event) (t : State OperationPartial) →
    IsExecution plan (as_operations ds) engines m events t
    ↔ ((s : State Partial) × IsCompleteRun plan (map fields ds) engines m events s × (t ≡ as_state s))
