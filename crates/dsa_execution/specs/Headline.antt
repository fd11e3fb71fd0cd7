-- What every complete run of a list of operations leaves.
use Rattle.std.specs.Prelude.{◌≡◌, ℕ, ◌<◌, List, length, take}
use Rattle.dsa_core.specs.declared.event.Event.{Event}
use Rattle.dsa_core.specs.BatchRecords.{batch_records, records_shown}
use Rattle.dsa_core.specs.Epochs.{setup_of}
use Rattle.dsa_core.specs.Laws.{IsInOrderTo}
use Rattle.dsa_core.specs.Order.{statuses_in_order}
use Rattle.dsa_core.specs.Run.{State}
use Rattle.dsa_core.specs.WorkRuns.{CanWork, IsCompleteWorkRun}
use Rattle.dsa_core.specs.StopPoint.{AllSucceed, IsStopPoint}
use Rattle.dsa_image.specs.Memory.{Memory}
use Rattle.dsa_operations.specs.declared.operation.Operation.{Operation}
use Rattle.dsa_settings.specs.Epochs.{epoch_of}
use Rattle.dsa_settings.specs.Plan.{Plan}
use Rattle.dsa_core.specs.declared.partial.OperationPartial.{OperationPartial}
use Rattle.dsa_core.specs.Operations.{executed, operation_machine}

-- what a run requires: the plan is legal for the operations, and the memory has each address that they read or write
abbrev pub CanExecute : ℕ → List Operation → Plan → Memory → Type 0
CanExecute greatest_batch operations plan m = CanWork operation_machine greatest_batch operations plan m

-- the events are a complete run of the operations under the plan, by that many engines, from the memory m to the state s
abbrev pub IsExecution : Plan → List Operation → ℕ → Memory → List Event → State OperationPartial → Type 0
IsExecution plan operations engines m events s = IsCompleteWorkRun operation_machine plan operations engines m events s

-- the status of each operation when they are executed in order
abbrev pub statuses_of : List Operation → Memory → List ℕ
statuses_of operations m = statuses_in_order operation_machine operations m

-- the run has ended in order at the stop point k: the memory is that of executing the first k operations in order; exactly
-- these are finished, with their statuses in order; and the batch records say so
pub record IsExecutedTo (plan : Plan) (operations : List Operation) (engines : ℕ) (m : Memory) (k : ℕ) (s : State OperationPartial) : Type 0 where
  pub stops : IsStopPoint (epoch_of plan) (statuses_of operations m) k
  pub memory : s.memory ≡ executed (take k operations) m
  pub in_order : IsInOrderTo operation_machine (setup_of plan operations engines) m k s
  pub records : records_shown plan s.progress ≡ batch_records plan k (statuses_of operations m)

-- every complete run of a legal plan ends in order
abbrev pub EveryExecutionIsInOrder : Type 0
EveryExecutionIsInOrder =
    (greatest_batch : ℕ) (operations : List Operation) (plan : Plan) (m : Memory) →
    (engines : ℕ) (events : List Event) (s : State OperationPartial) →
    CanExecute greatest_batch operations plan m → IsExecution plan operations engines m events s →
    (k : ℕ) × IsExecutedTo plan operations engines m k s

-- if each operation of the list succeeds when executed in order, a complete run leaves the memory of executing the whole
-- list in order, and all operations are finished
abbrev pub SuccessIsWhole : Type 0
SuccessIsWhole =
    (greatest_batch : ℕ) (operations : List Operation) (plan : Plan) (m : Memory) →
    (engines : ℕ) (events : List Event) (s : State OperationPartial) →
    CanExecute greatest_batch operations plan m → IsExecution plan operations engines m events s →
    AllSucceed (statuses_of operations m) →
    IsExecutedTo plan operations engines m (length operations) s × (s.memory ≡ executed operations m)

-- two complete runs leave the same memory and progress, and so the same batch records, whoever did what
abbrev pub ExecutionsAgree : Type 0
ExecutionsAgree =
    (greatest_batch : ℕ) (operations : List Operation) (plan : Plan) (m : Memory) →
    (engines engines' : ℕ) (events events' : List Event) (s s' : State OperationPartial) →
    CanExecute greatest_batch operations plan m → IsExecution plan operations engines m events s →
    IsExecution plan operations engines' m events' s' → s ≡ s'

-- and there are complete runs, by any engines
abbrev pub ExecutionsExist : Type 0
ExecutionsExist =
    (greatest_batch : ℕ) (operations : List Operation) (plan : Plan) (m : Memory) (engines : ℕ) →
    CanExecute greatest_batch operations plan m → 0 < engines →
    (events : List Event) × (s : State OperationPartial) × IsExecution plan operations engines m events s
