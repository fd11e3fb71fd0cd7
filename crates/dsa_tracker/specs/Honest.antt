-- A caller that goes by a tracker: what it submits, rings, completes and withdraws, and what the engines do meanwhile. (This
-- project's choice. To ring is to write a submission's entries to a portal.)
use Rattle.std.specs.Prelude.{◌≡◌, ℕ, ◌+◌, ◌⊎◌, Bool, true, false, ◌==◌, IsTrue, List, [], ◌∷◌, Option, Some, flat_map, slice_get, slice_set, if◌then◌else◌}
use Rattle.dsa_descriptor.specs.declared.span.Span.{Span}
use Rattle.dsa_descriptor.specs.Spans.{InSome}
use Rattle.dsa_image.specs.Memory.{Memory}
use Rattle.dsa_core.specs.declared.event.Event.{Event}
use Rattle.dsa_core.specs.Machine.{Machine}
use Rattle.dsa_core.specs.Run.{Setup, Progress, State, Step}
use Rattle.dsa_flight.specs.Caller.{with}
use Rattle.dsa_flight.specs.Flight.{Flight, lane_state, HasEnded, start_flight, AllFitting}
use Rattle.dsa_flight.specs.Laws.{EndsInTurn}
use Rattle.dsa_tracker.specs.declared.owner.Owner.{Owner}
use Rattle.dsa_tracker.specs.declared.slots.Slots.{Slots}
use Rattle.dsa_tracker.specs.declared.submitted.Retired.{Retired}
use Rattle.dsa_tracker.specs.declared.submitted.Submitted.{Submitted}
use Rattle.dsa_tracker.specs.Calls.{Submits, Retires}
use Rattle.dsa_tracker.specs.Table.{Table, IsHeld, IsReady}

-- the tracker's table; how many were submitted, and the number of the submission that each slot had last; which were rung;
-- and the flight
pub record Moment (P : Type 0) : Type 0 where
  pub table : Table
  pub submitted : ℕ
  pub number : ℕ → ℕ
  pub rung : ℕ → Bool
  pub flight : Flight P

-- what the caller does, a call of the tracker or a ring, and what an engine does
pub data Act : Type 0 where
  Submit : (reads writes : List Span) (also : Slots) (submitted : Submitted) → Act
  Ring : (slot : ℕ) → Act
  Complete : (slot : ℕ) (retired : Retired) → Act
  Withdraw : (slot : ℕ) (retired : Retired) → Act
  Work : (y : ℕ) (v : Event) → Act

-- the number that the slot has now
abbrev pub with_number : (ℕ → ℕ) → ℕ → ℕ → ℕ → ℕ
with_number f slot n s = if s == slot then n else f s

-- what a submission is said to read and write has all that its pieces read and write
abbrev pub Covers : List Span → List Span → List Span → List Span → Type 0
Covers reads writes said_reads said_writes =
    ((a : ℕ) → InSome reads a → InSome said_reads a ⊎ InSome said_writes a) × ((a : ℕ) → InSome writes a → InSome said_writes a)

-- the next submission is handed to the tracker, which takes it
pub record SubmitsNext {D P : Type 0} (r w : D → List Span) (subs : List (Setup D)) (s : Moment P) (reads writes : List Span) (also : Slots) (submitted : Submitted) (new : Moment P) : Type 0 where
  pub covers : (a : Setup D) → slice_get subs s.submitted ≡ Some a → Covers (flat_map r a.pieces) (flat_map w a.pieces) reads writes
  pub owner : Option Owner
  pub table : Table
  pub call : Submits s.table reads writes also owner submitted table
  pub after :
      new ≡ record {
        table = table;
        submitted = s.submitted + 1;
        number = with_number s.number submitted.slot s.submitted;
        rung = s.rung;
        flight = s.flight;
      }

-- one that the tracker calls ready is rung, once: the tracker does not know of it
pub record RingsOne {P : Type 0} (s : Moment P) (slot : ℕ) (new : Moment P) : Type 0 where
  pub is_ready : IsReady s.table.slots slot
  pub not_rung : s.rung (s.number slot) ≡ false
  pub after : new ≡ record s { rung = with s.rung (s.number slot) true }

-- one is taken off: the tracker's answer, and nothing else changes
pub record TakesOff {P : Type 0} (s : Moment P) (slot : ℕ) (retired : Retired) (new : Moment P) : Type 0 where
  pub is_held : IsHeld s.table.slots slot
  pub table : Table
  pub call : Retires s.table slot retired table
  pub after : new ≡ record s { table = table }

-- an engine does a step of one that was rung
pub record EngineWorks {D P : Type 0} (machine : Machine D P) (subs : List (Setup D)) (s : Moment P) (y : ℕ) (v : Event) (new : Moment P) : Type 0 where
  pub is_rung : IsTrue (s.rung y)
  pub setup : Setup D
  pub is_sub : slice_get subs y ≡ Some setup
  pub lane : List (Progress P)
  pub is_lane : slice_get s.flight.lanes y ≡ Some lane
  pub stepped : State P
  pub step : Step machine setup (lane_state s.flight.memory lane) v stepped
  pub after : new ≡ record s { flight = record { memory = stepped.memory; lanes = slice_set s.flight.lanes y stepped.progress } }

-- the caller is honest: it rings only what is ready, completes only what is ready and has ended, and withdraws only what it
-- did not ring
abbrev pub Does : {D P : Type 0} → Machine D P → (D → List Span) → (D → List Span) → List (Setup D) → Moment P → Act → Moment P → Type 0
Does machine r w subs s (Submit reads writes also submitted) new = SubmitsNext r w subs s reads writes also submitted new
Does machine r w subs s (Ring slot) new = RingsOne s slot new
Does machine r w subs s (Complete slot retired) new = IsReady s.table.slots slot × HasEnded subs s.flight (s.number slot) × TakesOff s slot retired new
Does machine r w subs s (Withdraw slot retired) new = (s.rung (s.number slot) ≡ false) × TakesOff s slot retired new
Does machine r w subs s (Work y v) new = EngineWorks machine subs s y v new

-- the acts lead from one moment to the other
abbrev pub DoesAll : {D P : Type 0} → Machine D P → (D → List Span) → (D → List Span) → List (Setup D) → Moment P → List Act → Moment P → Type 0
DoesAll machine r w subs s [] new = new ≡ s
DoesAll {D} {P} machine r w subs s (act ∷ acts) new =
    (mid : Moment P) × Does machine r w subs s act mid × DoesAll machine r w subs mid acts new

-- the start: a tracker whose slots are free, and nothing was submitted
abbrev pub IsStart : {D P : Type 0} → Machine D P → List (Setup D) → Memory → Moment P → Type 0
IsStart machine subs m s =
    ((k : ℕ) → ¬ IsHeld s.table.slots k) × (s.submitted ≡ 0) × (s.rung ≡ λ x. false) × (s.flight ≡ start_flight machine subs m)

-- once all that it rang have ended, such a caller finds what they leave one after another, in the order in which they were
-- submitted; what was withdrawn, or never rung, left nothing
abbrev pub TrackerEndsInTurn : {D P : Type 0} → Machine D P → (D → List Span) → (D → List Span) → Type 0
TrackerEndsInTurn {D} {P} machine r w =
    (subs : List (Setup D)) (m : Memory) (start s : Moment P) (acts : List Act) →
    AllFitting machine subs m → IsStart machine subs m start → DoesAll machine r w subs start acts s →
    ((x : ℕ) → IsTrue (s.rung x) → HasEnded subs s.flight x) →
    EndsInTurn machine s.rung subs s.flight.lanes m s.flight.memory
