-- A caller that goes by a tracker: it submits, rings what is ready, and retires what has ended or was never rung. (This
-- project's choice. To ring is to write a submission's entries to a portal.)
use Rattle.std.specs.Prelude.{◌≡◌, ℕ, ◌+◌, ◌<◌, ◌≤◌, ◌⊎◌, Bool, true, false, ◌==◌, IsTrue, List, [], ◌∷◌, Some, slice_get, slice_set, if◌then◌else◌}
use Rattle.dsa_image.specs.Memory.{Memory}
use Rattle.dsa_core.specs.Machine.{Machine}
use Rattle.dsa_core.specs.Run.{Setup, Progress, State, Step}
use Rattle.dsa_core.specs.declared.event.Event.{Event}
use Rattle.dsa_flight.specs.Flight.{Flight, lane_state, HasEnded, start_flight, SubsConflict, AllFitting}
use Rattle.dsa_flight.specs.Laws.{EndsInTurn}

-- what the tracker knows: how many were submitted, and which of them are outstanding; and which the caller has rung
pub record Tracking : Type 0 where
  pub submitted : ℕ
  pub outstanding : ℕ → Bool
  pub rung : ℕ → Bool

-- what is tracked, and the flight
pub record Session (P : Type 0) : Type 0 where
  pub tracking : Tracking
  pub flight : Flight P

-- what the caller does, and what an engine does
pub data Act : Type 0 where
  Submit : Act
  Ring : (y : ℕ) → Act
  Retire : (x : ℕ) → Act
  Work : (y : ℕ) (v : Event) → Act

-- the truth values with one changed
abbrev pub with : (ℕ → Bool) → ℕ → Bool → ℕ → Bool
with f n b x = if x == n then b else f x

-- what the tracker answers of an outstanding submission: no earlier one that is outstanding conflicts with it. `meets` is
-- what the tracker takes for a conflict
abbrev pub IsReady : (ℕ → ℕ → Bool) → Tracking → ℕ → Type 0
IsReady meets tracking y = (x : ℕ) → x < y → IsTrue (tracking.outstanding x) → meets x y ≡ false

-- the next one is submitted
abbrev pub SubmitsNext : {P : Type 0} → Session P → Session P → Type 0
SubmitsNext s new =
    new ≡ record {
      tracking = record { submitted = s.tracking.submitted + 1; outstanding = with s.tracking.outstanding s.tracking.submitted true; rung = s.tracking.rung };
      flight = s.flight;
    }

-- an outstanding one that is ready is rung, once
pub record Rings {P : Type 0} (meets : ℕ → ℕ → Bool) (s : Session P) (y : ℕ) (new : Session P) : Type 0 where
  pub is_outstanding : IsTrue (s.tracking.outstanding y)
  pub not_rung : s.tracking.rung y ≡ false
  pub is_ready : IsReady meets s.tracking y
  pub after : new ≡ record s { tracking = record { submitted = s.tracking.submitted; outstanding = s.tracking.outstanding; rung = with s.tracking.rung y true } }

-- an outstanding one is retired that has ended, or that was not rung: that one is withdrawn
pub record Retires {D P : Type 0} (subs : List (Setup D)) (s : Session P) (x : ℕ) (new : Session P) : Type 0 where
  pub is_outstanding : IsTrue (s.tracking.outstanding x)
  pub honest : HasEnded subs s.flight x ⊎ (s.tracking.rung x ≡ false)
  pub after : new ≡ record s { tracking = record { submitted = s.tracking.submitted; outstanding = with s.tracking.outstanding x false; rung = s.tracking.rung } }

-- an engine does a step of one that was rung
pub record Works {D P : Type 0} (machine : Machine D P) (subs : List (Setup D)) (s : Session P) (y : ℕ) (v : Event) (new : Session P) : Type 0 where
  pub is_rung : IsTrue (s.tracking.rung y)
  pub setup : Setup D
  pub is_sub : slice_get subs y ≡ Some setup
  pub lane : List (Progress P)
  pub is_lane : slice_get s.flight.lanes y ≡ Some lane
  pub stepped : State P
  pub step : Step machine setup (lane_state s.flight.memory lane) v stepped
  pub after : new ≡ record s { flight = record { memory = stepped.memory; lanes = slice_set s.flight.lanes y stepped.progress } }

-- what an act does to a session
abbrev pub Does : {D P : Type 0} → Machine D P → List (Setup D) → (ℕ → ℕ → Bool) → Session P → Act → Session P → Type 0
Does machine subs meets s Submit new = SubmitsNext s new
Does machine subs meets s (Ring y) new = Rings meets s y new
Does machine subs meets s (Retire x) new = Retires subs s x new
Does machine subs meets s (Work y v) new = Works machine subs s y v new

-- the acts lead from one to the other
abbrev pub DoesAll : {D P : Type 0} → Machine D P → List (Setup D) → (ℕ → ℕ → Bool) → Session P → List Act → Session P → Type 0
DoesAll machine subs meets s [] new = new ≡ s
DoesAll {D} {P} machine subs meets s (act ∷ acts) new =
    (mid : Session P) × Does machine subs meets s act mid × DoesAll machine subs meets mid acts new

-- the start: nothing is submitted
abbrev pub open_session : {D P : Type 0} → Machine D P → List (Setup D) → Memory → Session P
open_session machine subs m =
    record { tracking = record { submitted = 0; outstanding = λ x. false; rung = λ x. false }; flight = start_flight machine subs m }

-- what the tracker takes for a conflict is at least each conflict
abbrev pub MeetsCover : {D P : Type 0} → Machine D P → List (Setup D) → (ℕ → ℕ → Bool) → Type 0
MeetsCover {D} machine subs meets =
    (x y : ℕ) (a b : Setup D) → x < y → slice_get subs x ≡ Some a → slice_get subs y ≡ Some b → SubsConflict machine a b → IsTrue (meets x y)

-- a caller that goes by the tracker, once all that it rang have ended: memory is what these leave in turn, in the order in
-- which they were submitted, and those that it withdrew, or never rang, left nothing
abbrev pub TrackedEndsInTurn : {D P : Type 0} → Machine D P → Type 0
TrackedEndsInTurn {D} {P} machine =
    (subs : List (Setup D)) (meets : ℕ → ℕ → Bool) (m : Memory) (acts : List Act) (s : Session P) →
    AllFitting machine subs m → MeetsCover machine subs meets →
    DoesAll machine subs meets (open_session machine subs m) acts s →
    ((x : ℕ) → IsTrue (s.tracking.rung x) → HasEnded subs s.flight x) →
    EndsInTurn machine s.tracking.rung subs s.flight.lanes m s.flight.memory

-- if any submission is outstanding, one that is outstanding is ready, namely the least: waits alone never lock them up
abbrev pub SomeIsReady : Type 0
SomeIsReady =
    (meets : ℕ → ℕ → Bool) (tracking : Tracking) (y : ℕ) → IsTrue (tracking.outstanding y) →
    (x : ℕ) × (x ≤ y) × IsTrue (tracking.outstanding x) × IsReady meets tracking x
