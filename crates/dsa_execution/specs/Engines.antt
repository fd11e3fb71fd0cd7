-- What engines that run operations require and answer.
use Rattle.std.specs.Prelude.{◌≡◌, ℕ, ◌<◌, ◌≤◌, List, length}
use Rattle.dsa_core.specs.declared.outcome.Outcome.{Outcome}
use Rattle.dsa_core.specs.declared.partial.OperationPartial.{OperationPartial}
use Rattle.dsa_core.specs.Accounts.{most_members}
use Rattle.dsa_core.specs.BatchRecords.{records_shown}
use Rattle.dsa_core.specs.Given.{IsReady}
use Rattle.dsa_core.specs.OperationWork.{operation_work}
use Rattle.dsa_core.specs.Outcomes.{IsOutcomeOf, room_with}
use Rattle.dsa_core.specs.Run.{State}
use Rattle.dsa_descriptor.specs.Pieces.{most_pieces}
use Rattle.dsa_image.specs.Memory.{Memory}
use Rattle.dsa_operations.specs.declared.operation.Operation.{Operation}
use Rattle.dsa_settings.specs.Plan.{Plan}
use Rattle.dsa_execution.specs.Headline.{CanExecute, IsExecutedTo, IsExecution}

-- engines can run what can be executed, if it isn't too long and there are 1 to 64 of them
abbrev pub ReadyIfCanExecute : Type 0
ReadyIfCanExecute =
    (operations : List Operation) (plan : Plan) (m : Memory) (engines : ℕ) →
    CanExecute most_members operations plan m → length operations ≤ most_pieces → 0 < engines → engines ≤ 64 →
    IsReady operation_work m plan operations engines

-- what their run answers is what an execution has left: its history is one that leads to a state with this memory and these
-- batch records, in which exactly the finished operations are executed in order
abbrev pub OutcomeIsExecuted : Type 0
OutcomeIsExecuted =
    (operations : List Operation) (plan : Plan) (m : Memory) (engines : ℕ) (o : Outcome) →
    CanExecute most_members operations plan m →
    IsOutcomeOf operation_work (room_with m plan operations engines o.history.items) o →
    (s : State OperationPartial) × IsExecution plan operations engines m o.history.items s
    × IsExecutedTo plan operations engines m o.finished s
    × (o.image ≡ s.memory) × (o.batch_records.items ≡ records_shown plan s.progress)
