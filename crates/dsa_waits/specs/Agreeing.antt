-- Flights that agree with a recording: each entry is a submission of a flight by itself, since a device does the entries of
-- a batch in any order, but where a fence parts them (specification 341204, batch and fence). What agrees is this project's
-- choice.
use Rattle.std.specs.Prelude.{ℕ, ◌≡◌, ◌+◌, ◌<◌, nat_lt, ◌&&◌, Bool, IsTrue, List, [], ◌∷◌, length, get_or, Option, Some, None, slice_get, slice_set}
use Rattle.dsa_image.specs.Memory.{Memory}
use Rattle.dsa_core.specs.declared.event.Event.{Event as StepEvent}
use Rattle.dsa_core.specs.Machine.{Machine}
use Rattle.dsa_core.specs.Run.{Setup, Progress, State, Step}
use Rattle.dsa_flight.specs.Caller.{MeetsCover}
use Rattle.dsa_flight.specs.Flight.{Flight, AllFitting, HasEnded, IsFlight, lane_state, start_flight}
use Rattle.dsa_flight.specs.Laws.{EndsInTurn}
use Rattle.dsa_audit.specs.Members.{KnownConflict}
use Rattle.dsa_audit.specs.Steps.{AreLasts}
use Rattle.dsa_waits.specs.declared.course.Course.{Course}
use Rattle.dsa_waits.specs.Waits.{IsCourse, IsMissingWait, is_before_epoch, made_before, submission_of, tells}

-- ---- what happens

-- how many events of the recording have come, and the flight
pub record Moment (P : Type 0) : Type 0 where
  pub recorded : ℕ
  pub flight : Flight P

-- the next event of the recording comes, or an entry makes a step
pub data Act : Type 0 where
  Comes : Act
  Works : (y : ℕ) (v : StepEvent) → Act

-- The next event comes. What it tells is true: each entry whose end it tells has ended, if it is done at all (`goes`; what
-- follows a failure in its batch is not).
pub record EventComes {D P : Type 0} (c : Course) (subs : List (Setup D)) (goes : ℕ → Bool) (s new : Moment P) : Type 0 where
  pub told : (x : ℕ) → IsTrue (goes x) → IsTrue (tells c s.recorded x) → HasEnded subs s.flight x
  pub after : new ≡ record { recorded = s.recorded + 1; flight = s.flight }

-- entry y makes a step: its submission was made before, and the members before its epoch have ended
pub record EntryWorks {D P : Type 0} (machine : Machine D P) (c : Course) (subs : List (Setup D)) (goes : ℕ → Bool) (s : Moment P) (y : ℕ) (v : StepEvent) (new : Moment P) : Type 0 where
  pub goes_on : IsTrue (goes y)
  pub is_made : submission_of c y < made_before c.events.items s.recorded
  pub fenced : (x : ℕ) → IsTrue (goes x) → IsTrue (is_before_epoch c y x) → HasEnded subs s.flight x
  pub setup : Setup D
  pub is_sub : slice_get subs y ≡ Some setup
  pub lane : List (Progress P)
  pub is_lane : slice_get s.flight.lanes y ≡ Some lane
  pub stepped : State P
  pub step : Step machine setup (lane_state s.flight.memory lane) v stepped
  pub after :
      new ≡ record {
        recorded = s.recorded;
        flight = record { memory = stepped.memory; lanes = slice_set s.flight.lanes y stepped.progress };
      }

-- an act leads from one moment to the other
abbrev pub Does : {D P : Type 0} → Machine D P → Course → List (Setup D) → (ℕ → Bool) → Moment P → Act → Moment P → Type 0
Does machine c subs goes s Comes new = EventComes c subs goes s new
Does machine c subs goes s (Works y v) new = EntryWorks machine c subs goes s y v new

-- and acts one after another
abbrev pub DoesAll : {D P : Type 0} → Machine D P → Course → List (Setup D) → (ℕ → Bool) → Moment P → List Act → Moment P → Type 0
DoesAll machine c subs goes s [] new = new ≡ s
DoesAll {D} {P} machine c subs goes s (act ∷ acts) new =
    (mid : Moment P) × Does machine c subs goes s act mid × DoesAll machine c subs goes mid acts new

-- the acts agree with the recording: from the start, where no event has come, they lead to this moment
abbrev pub Agrees : {D P : Type 0} → Machine D P → Course → List (Setup D) → (ℕ → Bool) → Memory → List Act → Moment P → Type 0
Agrees machine c subs goes m acts s = DoesAll machine c subs goes (record { recorded = 0; flight = start_flight machine subs m }) acts s

-- ---- what is asked of the recording

-- no wait is missing
abbrev pub MissesNoWait : Course → Type 0
MissesNoWait c = (x y : ℕ) → x < y → ¬ IsMissingWait c x y

-- no entry has a missing wait
abbrev pub MissesNone : List (Option ℕ) → Type 0
MissesNone waits = (k : ℕ) → k < length waits → get_or waits k None ≡ None

-- so it is if the search finds none
abbrev pub NoneFound : Type 0
NoneFound =
    (c : Course) (waits : List (Option ℕ)) → IsCourse c → length waits ≡ length c.entries.items →
    AreLasts (IsMissingWait c) waits → MissesNone waits → MissesNoWait c

-- and no fence: of two entries of one submission that conflict the earlier is before the epoch of the later
abbrev pub MissesNoFence : Course → Type 0
MissesNoFence c =
    (x y : ℕ) → x < y → y < length c.entries.items → submission_of c x ≡ submission_of c y → KnownConflict c.members.items x y →
    IsTrue (is_before_epoch c y x)

-- the recording shows what the entries are: each has a submission in the flight, and what is taken for a conflict
-- (`meets`) is at least each conflict of these, and known from the recording
pub record Shows {D P : Type 0} (machine : Machine D P) (c : Course) (subs : List (Setup D)) (meets : ℕ → ℕ → Bool) : Type 0 where
  pub count : length subs ≡ length c.entries.items
  pub cover : MeetsCover machine subs meets
  pub known : (x y : ℕ) → IsTrue (meets x y) → KnownConflict c.members.items x y

-- ---- the law

-- an entry waits for the earlier ones that it conflicts with and that are done
abbrev pub waits_of : (ℕ → ℕ → Bool) → (ℕ → Bool) → ℕ → ℕ → Bool
waits_of meets goes x y = meets x y && nat_lt x y && goes x

-- the flight heeds each conflict; so once all that is done has ended, it leaves what the entries leave one after another
pub record HeedsConflicts {D P : Type 0} (machine : Machine D P) (subs : List (Setup D)) (meets : ℕ → ℕ → Bool) (goes : ℕ → Bool) (m : Memory) (s : Moment P) : Type 0 where
  pub events : List (ℕ × StepEvent)
  pub heeds : IsFlight machine subs goes (waits_of meets goes) m events s.flight
  pub in_turn : ((x : ℕ) → IsTrue (goes x) → HasEnded subs s.flight x) → EndsInTurn machine goes subs s.flight.lanes m s.flight.memory

-- if no wait and no fence is missing, all that agrees with the recording does so
abbrev pub WaitsSuffice : {D P : Type 0} → Machine D P → Type 0
WaitsSuffice {D} {P} machine =
    (c : Course) (subs : List (Setup D)) (goes : ℕ → Bool) (meets : ℕ → ℕ → Bool) (m : Memory) (acts : List Act) (s : Moment P) →
    IsCourse c → AllFitting machine subs m → Shows machine c subs meets → MissesNoWait c → MissesNoFence c →
    Agrees machine c subs goes m acts s → HeedsConflicts machine subs meets goes m s
