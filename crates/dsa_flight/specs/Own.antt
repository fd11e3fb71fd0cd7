-- What a submission touches is its own from its first step to its end. (This project's choice.)
use Rattle.std.specs.Prelude.{◌≡◌, ◌≢◌, ℕ, Bool, List, Some, slice_get}
use Rattle.dsa_image.specs.Memory.{Memory, byte_at}
use Rattle.dsa_core.specs.Machine.{Machine, Touches}
use Rattle.dsa_core.specs.Run.{Setup, Progress}
use Rattle.dsa_core.specs.Run.Progress.{Waiting}
use Rattle.dsa_core.specs.declared.event.Event.{Event}
use Rattle.dsa_flight.specs.Flight.{Flight, HasEnded, FlightStep, IsFlight, WaitsCover, AllFitting}

-- a piece of the submission is taken or finished, and the submission has not ended
pub record IsUnderWay {D P : Type 0} (subs : List (Setup D)) (s : Flight P) (z : ℕ) : Type 0 where
  pub lane : List (Progress P)
  pub is_lane : slice_get s.lanes z ≡ Some lane
  pub piece : ℕ
  pub progress : Progress P
  pub is_progress : slice_get lane piece ≡ Some progress
  pub not_waiting : progress ≢ Waiting
  pub not_ended : HasEnded subs s z → ⊥

-- the submission reads or writes the address
pub record TouchesIt {D P : Type 0} (machine : Machine D P) (subs : List (Setup D)) (z a : ℕ) : Type 0 where
  pub setup : Setup D
  pub is_sub : slice_get subs z ≡ Some setup
  pub place : ℕ
  pub piece : D
  pub is_piece : slice_get setup.pieces place ≡ Some piece
  pub touches : Touches machine piece a

-- no event of another submission changes a byte that a submission which is under way touches. So descriptors in its staging
-- area are those that the host wrote there, if its pieces count them as read
abbrev pub OthersKeepIt : {D P : Type 0} → Machine D P → Type 0
OthersKeepIt {D} {P} machine =
    (subs : List (Setup D)) (goes : ℕ → Bool) (waits : ℕ → ℕ → Bool) (m : Memory) (events : List (ℕ × Event)) (s new : Flight P) (y z a : ℕ) (v : Event) →
    AllFitting machine subs m → WaitsCover machine subs goes waits → IsFlight machine subs goes waits m events s →
    FlightStep machine subs goes waits s y v new → z ≢ y → IsUnderWay subs s z → TouchesIt machine subs z a →
    byte_at new.memory a ≡ byte_at s.memory a
