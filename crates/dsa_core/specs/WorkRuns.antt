-- Runs of a list of pieces of any kind under a plan.
use Rattle.std.specs.Prelude.{◌≡◌, ℕ, ◌+◌, ◌<◌, ◌≤◌, All, List, length, take, Some, slice_get, sum_by}
use Rattle.dsa_image.specs.Memory.{Memory}
use Rattle.dsa_settings.specs.Plan.{Plan}
use Rattle.dsa_settings.specs.Legal.{IsLegal}
use Rattle.dsa_settings.specs.Epochs.{epoch_of}
use Rattle.dsa_core.specs.declared.event.Event.{Event}
use Rattle.dsa_core.specs.Machine.{HoldsPiece, Machine}
use Rattle.dsa_core.specs.Run.{At, IsComplete, IsRun, State}
use Rattle.dsa_core.specs.Run.Progress.{Waiting, Finished}
use Rattle.dsa_core.specs.StopPoint.{IsStopPoint}
use Rattle.dsa_core.specs.Epochs.{PiecesConflictAt, setup_of}
use Rattle.dsa_core.specs.BatchRecords.{batch_records, records_shown}

-- what a run requires: the plan is legal for the pieces, and the memory has each address that they read or write
pub record CanWork {D A : Type 0} (machine : Machine D A) (greatest_batch : ℕ) (pieces : List D) (plan : Plan) (m : Memory) : Type 0 where
  pub legal : IsLegal (PiecesConflictAt machine pieces) greatest_batch (length pieces) plan
  pub holds : All (HoldsPiece machine m) pieces

-- the events are a run of the pieces under the plan, by that many engines, from the memory m to the state s
abbrev pub IsWorkRun : {D A : Type 0} → Machine D A → Plan → List D → ℕ → Memory → List Event → State A → Type 0
IsWorkRun machine plan pieces engines m events s = IsRun machine (setup_of plan pieces engines) m events s

-- and the run is complete
pub record IsCompleteWorkRun {D A : Type 0} (machine : Machine D A) (plan : Plan) (pieces : List D) (engines : ℕ) (m : Memory) (events : List Event) (s : State A) : Type 0 where
  pub is_run : IsWorkRun machine plan pieces engines m events s
  pub complete : IsComplete (setup_of plan pieces engines) s

-- the most events of one run (this project's choice)
abbrev pub most_events : ℕ
most_events = 4194304

-- the number of events of a run that finishes all of these pieces: a take, a finish and the lines of each
abbrev pub work_event_count : {D A : Type 0} → Machine D A → List D → ℕ
work_event_count machine pieces = sum_by (λ d. machine.lines d + 2) pieces

-- under the plan pieces that have these statuses in order stop after the first k
abbrev pub WorkStopsAfter : Plan → List ℕ → ℕ → Type 0
WorkStopsAfter plan statuses k = IsStopPoint (epoch_of plan) statuses k

-- exactly the first k pieces are finished, each with its status in order, and the memory is what they leave in order: what
-- pieces in order leave, and the statuses that they have, is given
pub record HasWorkedFirst {D A : Type 0} (executed : List D → Memory → Memory) (statuses : List D → Memory → List ℕ) (pieces : List D) (m : Memory) (k : ℕ) (s : State A) : Type 0 where
  pub memory : s.memory ≡ executed (take k pieces) m
  pub finished : (i : ℕ) → i < k → (status : ℕ) × At s i (Finished status) × (slice_get (statuses pieces m) i ≡ Some status)
  pub waiting : (i : ℕ) → k ≤ i → i < length pieces → At s i Waiting

-- the run has ended in order: at the stop point k, with the first k pieces done, and with their batch records
pub record WorkEndsInOrder {D A : Type 0} (executed : List D → Memory → Memory) (statuses : List D → Memory → List ℕ) (plan : Plan) (pieces : List D) (m : Memory) (k : ℕ) (s : State A) : Type 0 where
  pub stops : WorkStopsAfter plan (statuses pieces m) k
  pub done : HasWorkedFirst executed statuses pieces m k s
  pub records : records_shown plan s.progress ≡ batch_records plan k (statuses pieces m)
