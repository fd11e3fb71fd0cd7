-- Lists in which a fence is a barrier, and what planning says of their bytes.
use Rattle.std.specs.Prelude.{◌≡◌, ℕ, ◌<◌, ◌↔◌, Bool, List, [], length, map, Result, Ok, Err}
use Rattle.dsa_descriptor.specs.declared.descriptor.Descriptor.{Descriptor}
use Rattle.dsa_descriptor.specs.Fields.{Fields}
use Rattle.dsa_descriptor.specs.Descriptors.{fields}
use Rattle.dsa_descriptor.specs.Fences.{barriers_of, fences_of, unfenced_list}
use Rattle.dsa_ranges.specs.Ranges.{ConflictAt}
use Rattle.dsa_settings.specs.Barriers.{IsBarrier, WithBarriers}
use Rattle.dsa_settings.specs.Plan.{Plan}
use Rattle.dsa_settings.specs.Settings.{Limits, tariff_of}
use Rattle.dsa_settings.specs.Legal.{IsLeast}
use Rattle.dsa_plan.specs.Certificate.{IsGood}
use Rattle.dsa_splitter.specs.Pieces.{all_pieces, piece_barriers}
use Rattle.dsa_splitter.specs.Rules.{IsSplit}
use Rattle.dsa_calls.specs.declared.fault.PlanFault.{PlanFault}
use Rattle.dsa_calls.specs.Lists.{IsListOf, OverList}
use Rattle.dsa_calls.specs.Judge.{Judges, JudgesPiecesBy, sizes_of}
use Rattle.dsa_calls.specs.Planned.{Submission, IsSubmissionOfPiecesBy, Plans, PlansOperations}

-- the pieces of these operations conflict, or a barrier of the operations is between them
abbrev pub PiecesConflict : Limits → List Fields → List Bool → List Fields → ℕ → ℕ → Type 0
PiecesConflict s operations barriers pieces a b = WithBarriers (ConflictAt pieces) (piece_barriers s.greatest_transfer operations barriers) a b

-- these are the pieces of the operations that the bytes without their fences spell, and the pieces' barriers
pub record AreFencedPieces (bytes : List ℕ) (s : Limits) (pieces : List Descriptor) (barriers : List Bool) : Type 0 where
  pub operations : List Descriptor
  pub listed : IsListOf (unfenced_list bytes) operations
  pub split : IsSplit s.greatest_transfer s.staging (map fields operations)
  pub pieces_are : map fields pieces ≡ all_pieces (map fields operations) s.greatest_transfer
  pub barriers_are : barriers ≡ piece_barriers s.greatest_transfer (map fields operations) (barriers_of bytes)

-- The submission of these operations and their barriers: the pieces that they are split into, and the chosen plan of these
-- with the barriers, its prices and pairs, the version of the settings, the plan's cost, and its emission.
pub record IsSubmissionWith (barriers : List Bool) (s : Limits) (operations : List Fields) (p : Submission) : Type 0 where
  pub split : IsSplit s.greatest_transfer s.staging operations
  pub pieces_are : map fields p.pieces ≡ all_pieces operations s.greatest_transfer
  pub of_pieces : IsSubmissionOfPiecesBy (PiecesConflict s operations barriers (map fields p.pieces)) s p

-- the outcome of planning these operations and their barriers: their submission, or what planning without barriers refuses
abbrev pub PlansWith : List Bool → Limits → List Fields → Result Submission PlanFault → Type 0
PlansWith barriers s operations (Ok p) = IsSubmissionWith barriers s operations p
PlansWith barriers s operations (Err fault) = PlansOperations s operations (Err fault)

-- the outcome of planning these bytes: the first fault of the bytes without their fences as a list, or the outcome of
-- planning the operations that those spell, with the fences as barriers
abbrev pub PlansFenced : List ℕ → Limits → Result Submission PlanFault → Type 0
PlansFenced bytes s outcome = OverList (λ operations o. PlansWith (barriers_of bytes) s operations o) (unfenced_list bytes) outcome

-- the plan is legal with the barriers of the list, no such plan of the pieces costs less, and the certificate checks
pub record IsFencedLeast (bytes : List ℕ) (s : Limits) (p : Submission) : Type 0 where
  pub operations : List Descriptor
  pub listed : IsListOf (unfenced_list bytes) operations
  pub least :
      IsLeast (PiecesConflict s (map fields operations) (barriers_of bytes) (map fields p.pieces))
      s.greatest_batch (tariff_of s) (length p.pieces) p.plan
  pub good :
      IsGood (PiecesConflict s (map fields operations) (barriers_of bytes) (map fields p.pieces))
      s.greatest_batch (tariff_of s) (length p.pieces) p.certificate.prices p.certificate.pairs p.cost

-- the outcome of judging a plan for these bytes: the first fault of the bytes without their fences as a list, or the
-- outcome of judging the pieces that those spell, with the fences as barriers
abbrev pub JudgesFenced : List ℕ → Plan → Limits → Result ℕ PlanFault → Type 0
JudgesFenced bytes plan s outcome =
    OverList (λ pieces o. JudgesPiecesBy (WithBarriers (ConflictAt pieces) (barriers_of bytes)) (sizes_of pieces) plan s o) (unfenced_list bytes) outcome

-- planning with fences has at most one outcome for bytes and settings
abbrev pub OneFencedPlan : Type 0
OneFencedPlan = (bytes : List ℕ) (s : Limits) (outcome other : Result Submission PlanFault) →
    PlansFenced bytes s outcome → PlansFenced bytes s other → outcome ≡ other

-- if planning with fences answers, its plan is least
abbrev pub FencedPlanIsLeast : Type 0
FencedPlanIsLeast = (bytes : List ℕ) (s : Limits) (p : Submission) → PlansFenced bytes s (Ok p) → IsFencedLeast bytes s p

-- planning operations without barriers says what planning operations says
abbrev pub NoMarksPlanAlike : Type 0
NoMarksPlanAlike = (s : Limits) (fs : List Fields) (outcome : Result Submission PlanFault) → PlansWith [] s fs outcome ↔ PlansOperations s fs outcome

-- no descriptor after the first has the flag, so no barrier is between two
abbrev pub HasNoBarriers : List ℕ → Type 0
HasNoBarriers bytes = (k : ℕ) → 0 < k → ¬ IsBarrier (fences_of bytes) k

-- then planning with fences says what planning says of the bytes without fences
abbrev pub NoBarriersPlanAlike : Type 0
NoBarriersPlanAlike = (bytes : List ℕ) (s : Limits) (outcome : Result Submission PlanFault) →
    HasNoBarriers bytes → (PlansFenced bytes s outcome ↔ Plans (unfenced_list bytes) s outcome)

-- no descriptor has the flag
abbrev pub HasNoFences : List ℕ → Type 0
HasNoFences bytes = (k : ℕ) → ¬ IsBarrier (fences_of bytes) k

-- for bytes without the flag it says what planning says of them
abbrev pub NoFencesPlanAlike : Type 0
NoFencesPlanAlike = (bytes : List ℕ) (s : Limits) (outcome : Result Submission PlanFault) →
    HasNoFences bytes → (PlansFenced bytes s outcome ↔ Plans bytes s outcome)

-- and judging with fences says what judging says of them
abbrev pub NoFencesJudgeAlike : Type 0
NoFencesJudgeAlike = (bytes : List ℕ) (plan : Plan) (s : Limits) (outcome : Result ℕ PlanFault) →
    HasNoFences bytes → (JudgesFenced bytes plan s outcome ↔ Judges bytes plan s outcome)
