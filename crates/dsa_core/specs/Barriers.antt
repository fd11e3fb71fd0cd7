-- Barriers in runs.
use Rattle.std.specs.Prelude.{ℕ, ◌<◌, ◌≤◌, Bool, List, ◌∷◌, ◌++◌, length}
use Rattle.dsa_descriptor.specs.Fields.{Fields}
use Rattle.dsa_ranges.specs.Ranges.{ConflictAt}
use Rattle.dsa_image.specs.declared.partial.Partial.{Partial}
use Rattle.dsa_image.specs.Memory.{Memory}
use Rattle.dsa_settings.specs.Plan.{Plan}
use Rattle.dsa_settings.specs.Legal.{IsLegal}
use Rattle.dsa_settings.specs.Barriers.{IsBarrier, WithBarriers}
use Rattle.dsa_core.specs.declared.event.Event.{Event}
use Rattle.dsa_core.specs.declared.event.Kind.TheVariants.{Take}
use Rattle.dsa_core.specs.Run.{State, event, At}
use Rattle.dsa_core.specs.Run.Progress.{Finished}
use Rattle.dsa_core.specs.PieceRuns.{IsPieceRun}

-- in a run of a plan that is legal with barriers, when a piece after a barrier is taken, each piece before the barrier
-- has finished with status 1
abbrev pub NothingPassesABarrier : Type 0
NothingPassesABarrier =
    (greatest_batch : ℕ) (pieces : List Fields) (barriers : List Bool) (plan : Plan) (m : Memory) (engines : ℕ)
    (before after : List Event) (s : State Partial) (e k i j : ℕ) →
    IsLegal (WithBarriers (ConflictAt pieces) barriers) greatest_batch (length pieces) plan →
    IsPieceRun plan pieces engines m (before ++ (event e Take j ∷ after)) s →
    IsBarrier barriers k → i < k → k ≤ j →
    (now : State Partial) × IsPieceRun plan pieces engines m before now × At now i (Finished 1)

-- such a plan is legal, so what is known of runs of legal plans holds of it
abbrev pub LegalWithoutBarriers : Type 0
LegalWithoutBarriers =
    (greatest_batch : ℕ) (pieces : List Fields) (barriers : List Bool) (plan : Plan) →
    IsLegal (WithBarriers (ConflictAt pieces) barriers) greatest_batch (length pieces) plan →
    IsLegal (ConflictAt pieces) greatest_batch (length pieces) plan
