-- Runs of operations, by the laws of runs of work.
use Rattle.std.proofs.Common.{◌≡◌, ℕ, List, length, take, sym, ◌∙◌}
use Rattle.std.specs.Prelude.{⊤}
use Rattle.std.specs.List.{All}
use Rattle.dsa_core.specs.declared.event.Event.{Event}
use Rattle.dsa_core.specs.declared.partial.OperationPartial.{OperationPartial}
use Rattle.dsa_core.specs.Epochs.{setup_of}
use Rattle.dsa_core.specs.Operations.{executed, operation_machine}
use Rattle.dsa_core.specs.OperationWork.{operation_work}
use Rattle.dsa_core.specs.Run.{IsRun, State}
use Rattle.dsa_core.specs.StopPoint.{AllSucceed}
use Rattle.dsa_core.specs.WorkRuns.{WorkEndsInOrder}
use Rattle.dsa_core.proofs.OperationSteps.{memory_is_executed}
use Rattle.dsa_core.proofs.OperationsFit.{operations_fit}
use Rattle.dsa_core.proofs.WorkRunLaws as works
use Rattle.dsa_image.specs.Memory.{Memory}
use Rattle.dsa_operations.specs.declared.operation.Operation.{Operation}
use Rattle.dsa_settings.specs.Plan.{Plan}
use Rattle.dsa_execution.specs.Headline.{CanExecute, EveryExecutionIsInOrder, ExecutionsAgree, ExecutionsExist, IsExecutedTo, IsExecution, SuccessIsWhole, statuses_of}

-- operations have no profile beside their own
all_listed : (operations : List Operation) → All (λ (o : Operation). ⊤) operations
all_listed operations k o lt = tt

module _ (greatest_batch : ℕ) (operations : List Operation) (plan : Plan) (m : Memory) (engines : ℕ) (can : CanExecute greatest_batch operations plan m) where
  -- each operation has its progress
  pub progress_count :
      (events : List Event) (s : State OperationPartial) → IsRun operation_machine (setup_of plan operations engines) m events s → length s.progress ≡ length operations
  progress_count = works.progress_count operation_work operations_fit greatest_batch operations plan m engines (all_listed operations) can

  as_executed : (k : ℕ) (s : State OperationPartial) → WorkEndsInOrder operation_work.executed operation_work.statuses plan operations m k s → IsExecutedTo plan operations engines m k s
  as_executed k s ended =
      record {
        stops = ended.stops;
        memory = ended.done.memory;
        in_order = record {
          memory_is = ended.done.memory ∙ sym (memory_is_executed (take k operations) m);
          below = ended.done.finished;
          beyond = ended.done.waiting;
        };
        records = ended.records;
      }

  in_order :
      (events : List Event) (s : State OperationPartial) → IsExecution plan operations engines m events s →
      (k : ℕ) × IsExecutedTo plan operations engines m k s
  in_order events s run =
      let (k, ended) = works.in_order operation_work operations_fit greatest_batch operations plan m engines (all_listed operations) can events s run in
      (k, as_executed k s ended)

  -- where all succeed, all are done
  whole :
      (events : List Event) (s : State OperationPartial) → IsExecution plan operations engines m events s → AllSucceed (statuses_of operations m) →
      IsExecutedTo plan operations engines m (length operations) s × (s.memory ≡ executed operations m)
  whole events s run all =
      let (ended, memory) = works.whole operation_work operations_fit greatest_batch operations plan m engines (all_listed operations) can events s run all in
      (as_executed (length operations) s ended, memory)

pub every_execution_is_in_order : EveryExecutionIsInOrder
every_execution_is_in_order greatest_batch operations plan m engines events s can run = in_order greatest_batch operations plan m engines can events s run

pub success_is_whole : SuccessIsWhole
success_is_whole greatest_batch operations plan m engines events s can run all = whole greatest_batch operations plan m engines can events s run all

pub executions_exist : ExecutionsExist
executions_exist greatest_batch operations plan m engines can some =
    works.exists operation_work operations_fit greatest_batch operations plan m engines (all_listed operations) can some

pub executions_agree : ExecutionsAgree
executions_agree greatest_batch operations plan m engines engines' events events' s s' can run run' =
    works.agree operation_work operations_fit greatest_batch operations plan m engines engines' (all_listed operations) can events events' s s' run run'
