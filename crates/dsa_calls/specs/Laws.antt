-- What the outcomes of the calls promise of each other.
use Rattle.std.specs.Prelude.{◌≡◌, ◌⊎◌, ℕ, All, List, length, map, Result, Ok, Err}
use Rattle.dsa_descriptor.specs.Descriptors.{fields}
use Rattle.dsa_ranges.specs.Ranges.{ConflictAt}
use Rattle.dsa_settings.specs.Settings.{Limits, AreInLimits, tariff_of}
use Rattle.dsa_image.specs.Memory.{Memory, HoldsRanges}
use Rattle.dsa_image.specs.declared.partial.Partial.{Partial}
use Rattle.dsa_descriptor.specs.declared.descriptor.Descriptor.{Descriptor}
use Rattle.dsa_splitter.specs.Pieces.{all_whole}
use Rattle.dsa_core.specs.Run.{State}
use Rattle.dsa_core.specs.PieceRuns.{IsCompleteRun}
use Rattle.dsa_calls.specs.Lists.{IsListOf}
use Rattle.dsa_core.specs.declared.event.Event.{Event}
use Rattle.dsa_settings.specs.Plan.{Plan}
use Rattle.dsa_settings.specs.Legal.{IsLeast}
use Rattle.dsa_plan.specs.Certificate.{IsGood, Contents}
use Rattle.dsa_calls.specs.declared.fault.PlanFault.{PlanFault}
use Rattle.dsa_calls.specs.Judge.{Judges}
use Rattle.dsa_calls.specs.Planned.{Submission, Plans}
use Rattle.dsa_calls.specs.Checked.{Checks}
use Rattle.dsa_calls.specs.Runs.{Left, CanBegin, IsFirstBeginFault, OperationsSucceed, BreaksOff, ReplaysPieces, RunsPieces, Replays, Runs}

-- judging has at most one outcome for bytes, a plan and settings
abbrev pub OneJudged : Type 0
OneJudged = (bytes : List ℕ) (plan : Plan) (s : Limits) (outcome other : Result ℕ PlanFault) → Judges bytes plan s outcome → Judges bytes plan s other → outcome ≡ other

-- planning has at most one outcome for bytes and settings
abbrev pub OnePlanned : Type 0
OnePlanned = (bytes : List ℕ) (s : Limits) (outcome other : Result Submission PlanFault) → Plans bytes s outcome → Plans bytes s other → outcome ≡ other

-- checking has at most one outcome for bytes, settings and a certificate
abbrev pub OneChecked : Type 0
OneChecked = (portal staging : List ℕ) (s : Limits) (c : Contents) (outcome other : Result ℕ PlanFault) →
    Checks portal staging s c outcome → Checks portal staging s c other → outcome ≡ other

-- The plan is legal for its pieces, so it keeps their order and the device's limits and separates any two that conflict
-- in one group, and no legal plan of them costs less; and checking the bytes that submit it, with its certificate,
-- answers its cost.
pub record IsLeastAndShown (s : Limits) (p : Submission) : Type 0 where
  pub least : IsLeast (ConflictAt (map fields p.pieces)) s.greatest_batch (tariff_of s) (length p.pieces) p.plan
  pub good :
      IsGood (ConflictAt (map fields p.pieces)) s.greatest_batch (tariff_of s) (length p.pieces)
      p.certificate.prices p.certificate.pairs p.cost
  pub shown : Checks p.portal p.staging s p.certificate (Ok p.cost)

-- if planning answers, this holds
abbrev pub PlannedIsLeastAndShown : Type 0
PlannedIsLeastAndShown = (bytes : List ℕ) (s : Limits) (p : Submission) → Plans bytes s (Ok p) → IsLeastAndShown s p

-- replaying has at most one outcome for bytes, settings, a memory, engines and a trace
abbrev pub OneReplayed : Type 0
OneReplayed = (bytes : List ℕ) (s : Limits) (m : Memory) (engines : ℕ) (trace : List Event) (outcome other : Result Left PlanFault) →
    Replays bytes s m engines trace outcome → Replays bytes s m engines trace other → outcome ≡ other

-- a run broke off
abbrev pub HasBrokenOff : Result Left PlanFault → Type 0
HasBrokenOff outcome = (fault : PlanFault) × (outcome ≡ Err fault) × BreaksOff fault

-- a run was not refused: it left something, or broke off
abbrev pub HasBegun : Result Left PlanFault → Type 0
HasBegun outcome = ((left : Left) × (outcome ≡ Ok left)) ⊎ HasBrokenOff outcome

-- Running has at most one outcome for bytes, settings, a memory and engines, whoever did what, except that a run which is
-- not refused may also break off.
abbrev pub OneRun : Type 0
OneRun = (bytes : List ℕ) (s : Limits) (m : Memory) (engines : ℕ) (outcome other : Result Left PlanFault) →
    Runs bytes s m engines outcome → Runs bytes s m engines other →
    (outcome ≡ other) ⊎ (HasBegun outcome × HasBegun other × (HasBrokenOff outcome ⊎ HasBrokenOff other))

-- the outcome of a call for this submission: the first cause why no run of its pieces can begin, or, if a run can, what the
-- call says
abbrev pub IsOfPlan : {X : Type 0} → (Submission → Result X PlanFault → Type 0) → Memory → ℕ → Submission → Result X PlanFault → Type 0
IsOfPlan Says m engines p outcome =
    ((fault : PlanFault) × IsFirstBeginFault m engines (map fields p.pieces) fault × (outcome ≡ Err fault))
    ⊎ (CanBegin m engines (map fields p.pieces) × Says p outcome)

-- if planning answers, replaying is for that submission
abbrev pub ReplaysFollowPlans : Type 0
ReplaysFollowPlans = (bytes : List ℕ) (s : Limits) (m : Memory) (engines : ℕ) (trace : List Event) (p : Submission) (outcome : Result Left PlanFault) →
    Plans bytes s (Ok p) → Replays bytes s m engines trace outcome → IsOfPlan (λ q o. ReplaysPieces m engines trace q.plan (map fields q.pieces) o) m engines p outcome

-- and so is running
abbrev pub RunsFollowPlans : Type 0
RunsFollowPlans = (bytes : List ℕ) (s : Limits) (m : Memory) (engines : ℕ) (p : Submission) (outcome : Result Left PlanFault) →
    Plans bytes s (Ok p) → Runs bytes s m engines outcome → IsOfPlan (λ q o. RunsPieces m engines q.plan (map fields q.pieces) o) m engines p outcome

-- if planning answers, every complete run of the plan leaves what executing the list in order leaves, provided that each
-- operation succeeds there
abbrev pub PlannedRunsLeaveWhole : Type 0
PlannedRunsLeaveWhole = (bytes : List ℕ) (s : Limits) (p : Submission) (m : Memory) (engines : ℕ) (history : List Event) (state : State Partial) →
    AreInLimits s → Plans bytes s (Ok p) → All (HoldsRanges m) (map fields p.pieces) →
    IsCompleteRun p.plan (map fields p.pieces) engines m history state →
    (ds : List Descriptor) → IsListOf bytes ds → OperationsSucceed s (map fields ds) m → state.memory ≡ all_whole (map fields ds) s.greatest_transfer m
