-- Runs of planned lists of operations.
use Rattle.std.specs.Prelude.{ℕ, ◌<◌, ◌≤◌, All, List, ◌∷◌, ◌++◌}
use Rattle.dsa_core.specs.declared.event.Event.{Event}
use Rattle.dsa_core.specs.declared.event.Kind.TheVariants.{Take}
use Rattle.dsa_core.specs.Epochs.{setup_of}
use Rattle.dsa_core.specs.Machine.{HoldsPiece}
use Rattle.dsa_core.specs.Run.{At, IsRun, State, event}
use Rattle.dsa_core.specs.Run.Progress.{Finished}
use Rattle.dsa_descriptor.specs.Fences.{barriers_of}
use Rattle.dsa_image.specs.Memory.{Memory}
use Rattle.dsa_lists.specs.Submissions.{IsLeastOfOperations, OperationSubmission}
use Rattle.dsa_settings.specs.Barriers.{IsBarrier}
use Rattle.dsa_settings.specs.Settings.{Limits}
use Rattle.dsa_execution.specs.Headline.{CanExecute}
use Rattle.dsa_core.specs.declared.partial.OperationPartial.{OperationPartial}
use Rattle.dsa_core.specs.Operations.{operation_machine}

-- what planning answers for a list of operations can be run on each memory that has what they read and write
abbrev pub PlannedCanExecute : Type 0
PlannedCanExecute =
    (bytes : List ℕ) (s : Limits) (p : OperationSubmission) (planned : IsLeastOfOperations bytes s p) (m : Memory) →
    All (HoldsPiece operation_machine m) planned.operations → CanExecute s.greatest_batch planned.operations p.plan m

-- in such a run, when an operation after a barrier of the list is taken, each operation before the barrier has finished
-- with status 1
abbrev pub PlannedKeepsBarriers : Type 0
PlannedKeepsBarriers =
    (bytes : List ℕ) (s : Limits) (p : OperationSubmission) (planned : IsLeastOfOperations bytes s p) (m : Memory) (engines : ℕ) →
    (before after : List Event) (t : State OperationPartial) (e k i j : ℕ) →
    All (HoldsPiece operation_machine m) planned.operations →
    IsRun operation_machine (setup_of p.plan planned.operations engines) m (before ++ (event e Take j ∷ after)) t →
    IsBarrier (barriers_of bytes) k → i < k → k ≤ j →
    (now : State OperationPartial) × IsRun operation_machine (setup_of p.plan planned.operations engines) m before now
    × At now i (Finished 1)
