-- What engines that run operations require and answer.
use Rattle.std.proofs.Common.{◌≡◌, length, map, sym, ◌∙◌, subst}
use Rattle.std.specs.List.{All}
use Rattle.std.proofs.lemmas.List.{map-id}
use Rattle.dsa_core.specs.Accounts.{most_members}
use Rattle.dsa_core.specs.Epochs.{PiecesConflictAt}
use Rattle.dsa_core.specs.Machine.{HoldsPiece}
use Rattle.dsa_core.specs.Operations.{operation_machine}
use Rattle.dsa_core.proofs.StopPoint.{stop_points_agree}
use Rattle.dsa_operations.specs.declared.operation.Operation.{Operation}
use Rattle.dsa_settings.specs.Epochs.{epoch_of}
use Rattle.dsa_settings.specs.Legal.{IsLegal}
use Rattle.dsa_execution.specs.Engines.{OutcomeIsExecuted, ReadyIfCanExecute}
use Rattle.dsa_execution.specs.Headline.{IsExecutedTo, IsExecution, statuses_of}
use Rattle.dsa_execution.proofs.Runs.{every_execution_is_in_order}

pub ready_if_can_execute : ReadyIfCanExecute
ready_if_can_execute operations plan m engines can few some_engine few_engines =
    let same : map (λ (o : Operation). o) operations ≡ operations = map-id operations in
    record {
      few = few;
      legal = subst (λ os. IsLegal (PiecesConflictAt operation_machine os) most_members (length operations) plan) (sym same) can.legal;
      in_image = subst (λ os. All (HoldsPiece operation_machine m) os) (sym same) can.holds;
      some_engine = some_engine;
      few_engines = few_engines;
    }

pub outcome_is_executed : OutcomeIsExecuted
outcome_is_executed operations plan m engines o can out =
    let (s, now, complete) = out.outcome.over in
    let run : IsExecution plan operations engines m o.history.items s = record { is_run = now; complete = complete } in
    let (k, ended) = every_execution_is_in_order most_members operations plan m engines o.history.items s can run in
    let same : k ≡ o.finished = stop_points_agree (epoch_of plan) (statuses_of operations m) k o.finished ended.stops out.outcome.stops in
    let executed : IsExecutedTo plan operations engines m o.finished s = subst (λ n. IsExecutedTo plan operations engines m n s) same ended in
    (s, run, executed, out.outcome.memory ∙ sym executed.memory, out.outcome.records_are ∙ sym executed.records)
