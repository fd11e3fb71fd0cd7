-- What replaying and running the planned pieces of a list leave.
use Rattle.std.specs.Prelude.{◌≡◌, ℕ, ◌<◌, ◌≤◌, ◌⊎◌, All, Bool, true, List, length, map, Result, Ok, Err}
use Rattle.dsa_descriptor.specs.declared.descriptor.Descriptor.{Descriptor}
use Rattle.dsa_descriptor.specs.Fields.{Fields}
use Rattle.dsa_descriptor.specs.Descriptors.{fields}
use Rattle.dsa_image.specs.Memory.{Memory, HoldsRanges}
use Rattle.dsa_image.specs.Holding.{IsFirstOutside}
use Rattle.dsa_settings.specs.Settings.{Limits}
use Rattle.dsa_settings.specs.Plan.{Plan}
use Rattle.dsa_splitter.specs.Pieces.{all_whole, whole_statuses}
use Rattle.dsa_core.specs.declared.event.Event.{Event}
use Rattle.dsa_core.specs.declared.outcome.Outcome.{Outcome}
use Rattle.dsa_core.specs.declared.fault.CoreFault.TheVariants.{TooLong, NotAStep, Incomplete}
use Rattle.dsa_core.specs.PieceRuns.{event_count, most_events}
use Rattle.dsa_core.specs.DescriptorRooms.{IsFirstRefused, IsOutcome, IsUnfinished}
use Rattle.dsa_core.specs.Outcomes.{room_with}
use Rattle.dsa_engines.specs.declared.fault.RoomFault.TheVariants.{GateShut, Stale, Mixed}
use Rattle.dsa_calls.specs.declared.fault.PlanFault.{PlanFault}
use Rattle.dsa_calls.specs.declared.fault.PlanFault.TheVariants.{OutOfImage, Core, Room, Engines}
use Rattle.dsa_calls.specs.Lists.{IsListOf}
use Rattle.dsa_calls.specs.Planned.{Submission, Plans, ArePiecesOf}

-- what a complete run leaves
pub record Left : Type 0 where
  pub image : Memory
  pub finished : ℕ
  pub batch_records : List (List ℕ)

-- an outcome, as contracts see it
abbrev pub left_of : Outcome → Left
left_of o = record { image = o.image; finished = o.finished; batch_records = o.batch_records.items }

-- 1 to 64 engines (this project's choice)
pub record AreEngines (engines : ℕ) : Type 0 where
  pub some : 1 ≤ engines
  pub few : engines ≤ 64

-- a run of these pieces can begin: by so many engines, in a memory that has what they read and write, with so few events
pub record CanBegin (m : Memory) (engines : ℕ) (pieces : List Fields) : Type 0 where
  pub are_engines : AreEngines engines
  pub holds : All (HoldsRanges m) pieces
  pub few_events : event_count pieces ≤ most_events

-- the first cause why it can't: the engines, a piece outside the memory, the events
abbrev pub IsFirstBeginFault : Memory → ℕ → List Fields → PlanFault → Type 0
IsFirstBeginFault m engines pieces fault =
    ((fault ≡ Engines) × ¬ AreEngines engines)
    ⊎ ((i : ℕ) × (fault ≡ OutOfImage i) × AreEngines engines × IsFirstOutside m pieces i)
    ⊎ ((fault ≡ Core TooLong) × AreEngines engines × All (HoldsRanges m) pieces × (most_events < event_count pieces))

-- the outcome of replaying these events on pieces under a plan, if a run of these pieces can begin: what the events leave
-- if they are a complete run; else the first event that is no step, or that the run isn't complete
abbrev pub ReplaysPieces : Memory → ℕ → List Event → Plan → List Fields → Result Left PlanFault → Type 0
ReplaysPieces m engines trace plan pieces (Ok left) = IsOutcome (room_with m plan pieces engines trace) left.image left.finished left.batch_records
ReplaysPieces m engines trace plan pieces (Err fault) =
    ((k : ℕ) × (fault ≡ Core (NotAStep k)) × IsFirstRefused (room_with m plan pieces engines) trace k)
    ⊎ ((fault ≡ Core Incomplete) × IsUnfinished (room_with m plan pieces engines trace))

-- a run breaks off if work comes back out of date, or if the room that is left is not over
abbrev pub BreaksOff : PlanFault → Type 0
BreaksOff fault = (fault ≡ Room Stale) ⊎ (fault ≡ Room Mixed)

-- the outcome of running pieces under a plan, if a run of them can begin: what some complete run leaves; or that the run
-- broke off
abbrev pub RunsPieces : Memory → ℕ → Plan → List Fields → Result Left PlanFault → Type 0
RunsPieces m engines plan pieces (Ok left) =
    (history : List Event) × IsOutcome (room_with m plan pieces engines history) left.image left.finished left.batch_records
RunsPieces m engines plan pieces (Err fault) = BreaksOff fault

-- the first cause why no run of the list that the bytes spell can begin: the refusal of planning it; or, if it is split
-- into pieces, the first cause why a run of these can't
abbrev pub RefusesRun : List ℕ → Limits → Memory → ℕ → PlanFault → Type 0
RefusesRun bytes s m engines fault =
    Plans bytes s (Err fault) ⊎ ((pieces : List Descriptor) × ArePiecesOf s bytes pieces × IsFirstBeginFault m engines (map fields pieces) fault)

-- the outcome of a call over the planned list: the first cause why no run can begin; or, if a run of the planned pieces
-- can, what the call says of their submission
abbrev pub OverPlanned : {X : Type 0} → (Submission → Result X PlanFault → Type 0) → List ℕ → Limits → Memory → ℕ → Result X PlanFault → Type 0
OverPlanned Says bytes s m engines outcome =
    ((fault : PlanFault) × RefusesRun bytes s m engines fault × (outcome ≡ Err fault))
    ⊎ ((p : Submission) × Plans bytes s (Ok p) × CanBegin m engines (map fields p.pieces) × Says p outcome)

-- the outcome of replaying events on the pieces of the list that the bytes spell, under their chosen plan
abbrev pub Replays : List ℕ → Limits → Memory → ℕ → List Event → Result Left PlanFault → Type 0
Replays bytes s m engines trace outcome = OverPlanned (λ p o. ReplaysPieces m engines trace p.plan (map fields p.pieces) o) bytes s m engines outcome

-- the outcome of running them
abbrev pub Runs : List ℕ → Limits → Memory → ℕ → Result Left PlanFault → Type 0
Runs bytes s m engines outcome = OverPlanned (λ p o. RunsPieces m engines p.plan (map fields p.pieces) o) bytes s m engines outcome

-- if the list is executed in order from this memory, each operation writes status 1 in each of its records
abbrev pub OperationsSucceed : Limits → List Fields → Memory → Type 0
OperationsSucceed s fs m = All (λ status. status ≡ 1) (whole_statuses fs s.greatest_transfer m)

-- If each operation of the list that the bytes spell succeeds when executed in order, what is left is the memory of
-- executing the list, completion records included, and all pieces are finished.
abbrev pub LeavesWhole : List ℕ → Limits → Memory → Left → Type 0
LeavesWhole bytes s m left =
    (ds : List Descriptor) → IsListOf bytes ds → OperationsSucceed s (map fields ds) m →
    (left.image ≡ all_whole (map fields ds) s.greatest_transfer m) × (left.finished ≡ length (whole_statuses (map fields ds) s.greatest_transfer m))

-- ---- for private clauses

-- the outcome of a run, or, if its gate may refuse, that it did
abbrev pub OrShut : Bool → (Result Left PlanFault → Type 0) → Result Left PlanFault → Type 0
OrShut may_refuse Says outcome = Says outcome ⊎ ((may_refuse ≡ true) × (outcome ≡ Err (Room GateShut)))

-- the number of engines, if a run of these pieces can begin; else the first cause why it can't
abbrev pub BeginsWith : Memory → ℕ → List Fields → Result ℕ PlanFault → Type 0
BeginsWith m engines pieces (Ok number) = (number ≡ engines) × CanBegin m engines pieces
BeginsWith m engines pieces (Err fault) = IsFirstBeginFault m engines pieces fault

-- the pieces and the plan of the list's submission
abbrev pub IsPlanned : List ℕ → Limits → List Descriptor → Plan → Type 0
IsPlanned bytes s pieces plan = (p : Submission) × Plans bytes s (Ok p) × (p.pieces ≡ pieces) × (p.plan ≡ plan)

-- what a run of the list takes: the pieces and the plan of its submission, and the number of engines
pub record IsReady (bytes : List ℕ) (s : Limits) (m : Memory) (engines : ℕ) (pieces : List Descriptor) (plan : Plan) (number : ℕ) : Type 0 where
  pub planned : IsPlanned bytes s pieces plan
  pub number_is : number ≡ engines
  pub can : CanBegin m engines (map fields pieces)
