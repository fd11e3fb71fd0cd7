-- Submissions in flight over one memory: each is a run of its own, whose steps come between those of the others in any
-- order, once those that it waits for have ended. (A submission is a planned list, or one entry of a portal: specification
-- 341204 gives no order between entries, so software waits for completion records. What a flight is, is this project's
-- choice.)
use Rattle.std.specs.Prelude.{◌≡◌, ℕ, ◌<◌, Bool, IsTrue, List, [], ◌∷◌, map, Some, slice_get, slice_set}
use Rattle.dsa_image.specs.Memory.{Memory}
use Rattle.dsa_core.specs.Machine.{Machine, PiecesConflict}
use Rattle.dsa_core.specs.Run.{Setup, Progress, State, Step, start_state, IsComplete, IsFitting}
use Rattle.dsa_core.specs.declared.event.Event.{Event}

-- the memory, and the progress of the pieces of each submission, in the order in which they were submitted
pub record Flight (P : Type 0) : Type 0 where
  pub memory : Memory
  pub lanes : List (List (Progress P))

-- one submission of a flight, seen as a run: the memory now, and the progress of its own pieces
abbrev pub lane_state : {P : Type 0} → Memory → List (Progress P) → State P
lane_state m progress = record { memory = m; progress = progress }

-- submission x has ended: none of its pieces is taken, and all are finished or an epoch has failed, so that nothing of it
-- comes any more
pub record HasEnded {D P : Type 0} (subs : List (Setup D)) (s : Flight P) (x : ℕ) : Type 0 where
  pub setup : Setup D
  pub is_sub : slice_get subs x ≡ Some setup
  pub lane : List (Progress P)
  pub is_lane : slice_get s.lanes x ≡ Some lane
  pub complete : IsComplete setup (lane_state s.memory lane)

-- the event is a step of submission y: y was not withdrawn, each that it waits for has ended (the flight heeds the waits),
-- and the other submissions stay as they are
pub record FlightStep {D P : Type 0} (machine : Machine D P) (subs : List (Setup D)) (goes : ℕ → Bool) (waits : ℕ → ℕ → Bool) (s : Flight P) (y : ℕ) (v : Event) (new : Flight P) : Type 0 where
  pub not_withdrawn : IsTrue (goes y)
  pub setup : Setup D
  pub is_sub : slice_get subs y ≡ Some setup
  pub lane : List (Progress P)
  pub is_lane : slice_get s.lanes y ≡ Some lane
  pub stepped : State P
  pub step : Step machine setup (lane_state s.memory lane) v stepped
  pub heeds : (x : ℕ) → IsTrue (waits x y) → HasEnded subs s x
  pub after : new ≡ record { memory = stepped.memory; lanes = slice_set s.lanes y stepped.progress }

-- the events, each of the submission of this number, lead from one to the other
abbrev pub FlightSteps : {D P : Type 0} → Machine D P → List (Setup D) → (ℕ → Bool) → (ℕ → ℕ → Bool) → Flight P → List (ℕ × Event) → Flight P → Type 0
FlightSteps machine subs goes waits s [] new = new ≡ s
FlightSteps {D} {P} machine subs goes waits s (v ∷ vs) new =
    (mid : Flight P) × FlightStep machine subs goes waits s v.0 v.1 mid × FlightSteps machine subs goes waits mid vs new

-- each piece of a submission waits
abbrev pub new_lane : {D P : Type 0} → Machine D P → Setup D → List (Progress P)
new_lane machine setup = (start_state machine setup (record { first = 0; bytes = [] })).progress

-- the start: this memory, and each piece of each submission waits
abbrev pub start_flight : {D P : Type 0} → Machine D P → List (Setup D) → Memory → Flight P
start_flight machine subs m = record { memory = m; lanes = map (new_lane machine) subs }

-- the events are a flight of these submissions from this memory
abbrev pub IsFlight : {D P : Type 0} → Machine D P → List (Setup D) → (ℕ → Bool) → (ℕ → ℕ → Bool) → Memory → List (ℕ × Event) → Flight P → Type 0
IsFlight machine subs goes waits m events s = FlightSteps machine subs goes waits (start_flight machine subs m) events s

-- each submission that was not withdrawn has ended
abbrev pub AllEnded : {D P : Type 0} → List (Setup D) → (ℕ → Bool) → Flight P → Type 0
AllEnded {D} subs goes s = (x : ℕ) (setup : Setup D) → slice_get subs x ≡ Some setup → IsTrue (goes x) → HasEnded subs s x

-- two submissions conflict: a piece of one conflicts with a piece of the other
pub record SubsConflict {D P : Type 0} (machine : Machine D P) (a b : Setup D) : Type 0 where
  pub i : ℕ
  pub j : ℕ
  pub d : D
  pub e : D
  pub is_d : slice_get a.pieces i ≡ Some d
  pub is_e : slice_get b.pieces j ≡ Some e
  pub conflict : PiecesConflict machine d e

-- a submission waits for each earlier one that it conflicts with and that was not withdrawn
abbrev pub WaitsCover : {D P : Type 0} → Machine D P → List (Setup D) → (ℕ → Bool) → (ℕ → ℕ → Bool) → Type 0
WaitsCover {D} machine subs goes waits =
    (x y : ℕ) (a b : Setup D) → x < y → IsTrue (goes x) → slice_get subs x ≡ Some a → slice_get subs y ≡ Some b → SubsConflict machine a b → IsTrue (waits x y)

-- what is asked of the start: the memory holds the pieces of each submission, the steps of a piece stay within it, and the
-- epochs of a submission separate its pieces that conflict
abbrev pub AllFitting : {D P : Type 0} → Machine D P → List (Setup D) → Memory → Type 0
AllFitting {D} machine subs m = (x : ℕ) (setup : Setup D) → slice_get subs x ≡ Some setup → IsFitting machine setup m
