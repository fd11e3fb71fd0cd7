-- What planning says of the bytes of a list and the settings.
use Rattle.std.specs.Prelude.{◌≡◌, ◌≢◌, ℕ, ◌≤◌, All, List, length, map, Result, Ok, Err}
use Rattle.dsa_descriptor.specs.declared.descriptor.Descriptor.{Descriptor}
use Rattle.dsa_descriptor.specs.Fields.{Fields}
use Rattle.dsa_descriptor.specs.Descriptors.{fields}
use Rattle.dsa_descriptor.specs.Lists.{HaveOneOwner}
use Rattle.dsa_descriptor.specs.Spans.{InSpan}
use Rattle.dsa_descriptor.specs.Pieces.{most_pieces}
use Rattle.dsa_ranges.specs.Ranges.{ConflictAt, Touches}
use Rattle.dsa_settings.specs.Settings.{Limits, tariff_of, version_of}
use Rattle.dsa_settings.specs.Plan.{Plan, plan_cost}
use Rattle.dsa_plan.specs.Chain.{Pairs}
use Rattle.dsa_emission.specs.Emission.{portal_bytes, staging_bytes, staging_span}
use Rattle.dsa_splitter.specs.declared.fault.SplitFault.{SplitFault}
use Rattle.dsa_splitter.specs.declared.fault.SplitFault.TheVariants.{Memory as SplitMemory}
use Rattle.dsa_splitter.specs.Pieces.{all_pieces}
use Rattle.dsa_splitter.specs.Rules.{IsSplit, IsFirstSplitFault}
use Rattle.dsa_search.specs.Chosen.{IsChosen}
use Rattle.dsa_plan.specs.Certificate.{Contents, contents}
use Rattle.dsa_calls.specs.declared.fault.PlanFault.{PlanFault}
use Rattle.dsa_calls.specs.declared.planning.Planned.{Planned}
use Rattle.dsa_calls.specs.declared.fault.PlanFault.TheVariants.{Split}
use Rattle.dsa_calls.specs.Lists.{IsListOf, OverList}

-- what planning answers: the pieces of the listed operations, their plan, its certificate and its cost, and the bytes
-- that submit it
pub record Submission : Type 0 where
  pub pieces : List Descriptor
  pub plan : Plan
  pub certificate : Contents
  pub cost : ℕ
  pub portal : List ℕ
  pub staging : List ℕ

-- The submission of these operations: the pieces that they are split into, the chosen plan of these with its prices and
-- pairs, the version of the settings, the plan's cost, and its emission.
pub record IsSubmissionOf (s : Limits) (fs : List Fields) (p : Submission) : Type 0 where
  pub split : IsSplit s.greatest_transfer s.staging fs
  pub pieces_are : map fields p.pieces ≡ all_pieces fs s.greatest_transfer
  pub chosen :
      IsChosen (ConflictAt (map fields p.pieces)) s.greatest_batch (tariff_of s) (length p.pieces)
      p.certificate.prices p.certificate.pairs p.plan
  pub version_is : p.certificate.version ≡ version_of s
  pub cost_is : p.cost ≡ plan_cost (tariff_of s) p.plan
  pub portal_is : p.portal ≡ portal_bytes s p.plan (map fields p.pieces)
  pub staging_is : p.staging ≡ staging_bytes p.plan (map fields p.pieces)

-- the outcome of planning these operations: their submission, or the first fault of splitting them
abbrev pub PlansOperations : Limits → List Fields → Result Submission PlanFault → Type 0
PlansOperations s fs (Ok p) = IsSubmissionOf s fs p
PlansOperations s fs (Err fault) =
    (cause : SplitFault) × (cause ≢ SplitMemory) × IsFirstSplitFault s.greatest_transfer s.staging fs cause × (fault ≡ Split cause)

-- the outcome of planning these bytes: the first fault of the bytes as a list, or the outcome of planning the operations
-- that they spell
abbrev pub Plans : List ℕ → Limits → Result Submission PlanFault → Type 0
Plans bytes settings outcome = OverList (λ fs o. PlansOperations settings fs o) bytes outcome

-- these are the pieces of the operations that the bytes spell
pub record ArePiecesOf (s : Limits) (bytes : List ℕ) (pieces : List Descriptor) : Type 0 where
  pub operations : List Descriptor
  pub listed : IsListOf bytes operations
  pub split : IsSplit s.greatest_transfer s.staging (map fields operations)
  pub pieces_are : map fields pieces ≡ all_pieces (map fields operations) s.greatest_transfer

-- what was planned, as contracts see it
abbrev pub submission_of : Planned → Submission
submission_of p =
    record {
      pieces = p.pieces.items;
      plan = p.plan;
      certificate = contents p.certificate;
      cost = p.cost;
      portal = p.emission.portal.items;
      staging = p.emission.staging.items;
    }

-- ---- for private clauses

-- the pieces of a list can be planned and their plan emitted: they are few, of one owner, short, and clear of the staging area
pub record CanBePlanned (s : Limits) (pieces : List Fields) : Type 0 where
  pub few : length pieces ≤ most_pieces
  pub one_owner : HaveOneOwner pieces
  pub short : All (λ d. d.size ≤ s.greatest_transfer) pieces
  pub clear : All (λ d. (address : ℕ) → InSpan (staging_span s pieces) address → ¬ Touches d address) pieces

-- the outcome of splitting the operations that the bytes spell
abbrev pub SplitsList : Limits → List ℕ → Result (List Descriptor) PlanFault → Type 0
SplitsList s bytes (Ok pieces) = ArePiecesOf s bytes pieces
SplitsList s bytes (Err fault) = Plans bytes s (Err fault)

-- the submission of these pieces; `C` says which pieces conflict
pub record IsSubmissionOfPiecesBy (C : ℕ → ℕ → Type 0) (s : Limits) (p : Submission) : Type 0 where
  pub chosen :
      IsChosen C s.greatest_batch (tariff_of s) (length p.pieces)
      p.certificate.prices p.certificate.pairs p.plan
  pub version_is : p.certificate.version ≡ version_of s
  pub cost_is : p.cost ≡ plan_cost (tariff_of s) p.plan
  pub portal_is : p.portal ≡ portal_bytes s p.plan (map fields p.pieces)
  pub staging_is : p.staging ≡ staging_bytes p.plan (map fields p.pieces)

-- the same for pieces without barriers
abbrev pub IsSubmissionOfPieces : Limits → Submission → Type 0
IsSubmissionOfPieces s p = IsSubmissionOfPiecesBy (ConflictAt (map fields p.pieces)) s p

-- the chosen plan of these pieces, with some prices and pairs
abbrev pub IsPlanOf : Limits → List Descriptor → Plan → Type 0
IsPlanOf s pieces plan =
    (prices : List ℕ) × (pairs : Pairs)
    × IsChosen (ConflictAt (map fields pieces)) s.greatest_batch (tariff_of s) (length pieces) prices pairs plan
