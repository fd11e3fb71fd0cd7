-- Runs of planned lists of operations.
use Rattle.std.proofs.Common.{◌≡◌, ◌<◌, ◌∷◌, length, arith}
use Rattle.std.proofs.lemmas.Option.{slice_get_within}
use Rattle.dsa_core.specs.declared.event.Kind.TheVariants.{Take}
use Rattle.dsa_core.specs.Epochs.{setup_of}
use Rattle.dsa_core.specs.Run.{event, start_state}
use Rattle.dsa_core.specs.Run.Progress.{Waiting}
use Rattle.dsa_core.proofs.Moments.{steps_part}
use Rattle.dsa_descriptor.specs.Fences.{barriers_of}
use Rattle.dsa_operations.specs.Operations.{OperationConflictAt}
use Rattle.dsa_settings.specs.Epochs.{epoch_of}
use Rattle.dsa_settings.proofs.Barriers.{barriers_part, legal_is_kept}
use Rattle.dsa_execution.specs.Headline.{CanExecute}
use Rattle.dsa_core.specs.Operations.{operation_machine}
use Rattle.dsa_execution.specs.Planned.{PlannedCanExecute, PlannedKeepsBarriers}
use Rattle.dsa_execution.proofs.Runs.{progress_count}

-- a plan that is legal with the barriers is legal
pub planned_can_execute : PlannedCanExecute
planned_can_execute bytes s p planned m holds =
    let os = planned.operations in
    record {
      legal = ((legal_is_kept (OperationConflictAt os) (barriers_of bytes) s.greatest_batch (length os) p.plan).0 planned.least.legal).0;
      holds = holds;
    }

-- and puts each operation after a barrier into a later epoch than those before it
pub planned_keeps_barriers : PlannedKeepsBarriers
planned_keeps_barriers bytes s p planned m engines before after t e k i j holds run barrier lt le =
    let os = planned.operations in
    let setup = setup_of p.plan os engines in
    let can : CanExecute s.greatest_batch os p.plan m = planned_can_execute bytes s p planned m holds in
    let (there, begun, taken) = steps_part operation_machine setup before (event e Take j ∷ after) (start_state operation_machine setup m) t run in
    let count : length there.progress ≡ length os = progress_count s.greatest_batch os p.plan m engines can before there begun in
    let inside : j < length os = omega (arith, slice_get_within there.progress j Waiting taken.1.waiting, count) in
    let parted : epoch_of p.plan i < epoch_of p.plan j =
    barriers_part (OperationConflictAt os) (barriers_of bytes) s.greatest_batch (length os) p.plan k i j planned.least.legal barrier lt le inside in
    (there, begun, taken.1.earlier_succeeded i (omega arith) parted)
