-- What planning and judging say of a list of operations and the settings.
use Rattle.std.specs.Prelude.{◌≡◌, ◌≢◌, ◌⊎◌, ℕ, ◌<◌, ◌≤◌, Bool, List, length, map, slice_get, Some, Result, Ok, Err}
use Rattle.std.specs.List.{flat_map}
use Rattle.dsa_descriptor.specs.declared.fault.ListFault.{ListFault}
use Rattle.dsa_descriptor.specs.declared.fault.ListFault.TheVariants.{Memory as ListMemory}
use Rattle.dsa_descriptor.specs.declared.span.Span.{Span}
use Rattle.dsa_descriptor.specs.Fences.{barriers_of, unfenced_list}
use Rattle.dsa_descriptor.specs.Lists.{AreOfOneOwner, IsFirstFaultBy}
use Rattle.dsa_descriptor.specs.Pieces.{most_pieces}
use Rattle.dsa_descriptor.specs.Spans.{InSpan}
use Rattle.dsa_ranges.specs.Pieces.{TouchesAt}
use Rattle.dsa_settings.specs.Staging.{staging_area}
use Rattle.dsa_settings.specs.Settings.{Limits, tariff_of, version_of}
use Rattle.dsa_settings.specs.Plan.{Plan, plan_cost}
use Rattle.dsa_settings.specs.Barriers.{WithBarriers}
use Rattle.dsa_plan.specs.Certificate.{Contents, IsGood, contents}
use Rattle.dsa_settings.specs.Legal.{IsLeast}
use Rattle.dsa_emission.specs.Emission.{portal_of, staging_of}
use Rattle.dsa_splitter.specs.declared.fault.SplitFault.TheVariants.{TooManyPieces, StagingMeets}
use Rattle.dsa_search.specs.Chosen.{IsChosen}
use Rattle.dsa_calls.specs.declared.fault.PlanFault.{PlanFault}
use Rattle.dsa_calls.specs.declared.fault.PlanFault.TheVariants.{List as InList, Split, OverTransfer}
use Rattle.dsa_calls.specs.Judge.{FitTransfer, IsFirstOver, JudgesPiecesBy}
use Rattle.dsa_operations.specs.declared.operation.Operation.{Operation}
use Rattle.dsa_lists.specs.declared.submitting.PlannedOperations.{PlannedOperations}
use Rattle.dsa_operations.specs.Faults.{OperationKeeps}
use Rattle.dsa_operations.specs.Operations.{OperationConflictAt, operation_kind, size_of, spelling_of}

-- an operation reads or writes an address of the area
abbrev pub TouchesArea : Span → Operation → Type 0
TouchesArea area o = (address : ℕ) × InSpan area address × TouchesAt operation_kind o address

-- no operation has the property
abbrev pub NoneHas : (Operation → Type 0) → List Operation → Type 0
NoneHas P operations = (i : ℕ) (o : Operation) → slice_get operations i ≡ Some o → ¬ P o

-- operation i is the first that has it
pub record IsFirst (P : Operation → Type 0) (operations : List Operation) (i : ℕ) : Type 0 where
  pub operation : Operation
  pub there : slice_get operations i ≡ Some operation
  pub has : P operation
  pub before : (j : ℕ) (o : Operation) → j < i → slice_get operations j ≡ Some o → ¬ P o

-- the area where the batches of the operations are put
abbrev pub area_of : Limits → List Operation → Span
area_of s operations = staging_area s.staging (length operations)

-- the operations can be submitted as they are: they are few, none is longer than the greatest transfer, and none reads or
-- writes where batches are put (this project's choice, as for the pieces of a list of descriptors; none is split)
pub record CanBeSubmitted (s : Limits) (operations : List Operation) : Type 0 where
  pub few : length operations ≤ most_pieces
  pub short : FitTransfer s.greatest_transfer (map size_of operations)
  pub clear : NoneHas (TouchesArea (area_of s operations)) operations

-- the operations that the bytes without their fences spell, of one owner, and they can be submitted as they are
pub record AreReady (bytes : List ℕ) (s : Limits) (operations : List Operation) : Type 0 where
  pub spelt : unfenced_list bytes ≡ flat_map spelling_of operations
  pub owner : AreOfOneOwner spelling_of operations
  pub can : CanBeSubmitted s operations

-- what planning answers: how many pieces were planned, the plan, its certificate and its cost, and the bytes that submit it
pub record OperationSubmission : Type 0 where
  pub pieces : ℕ
  pub plan : Plan
  pub certificate : Contents
  pub cost : ℕ
  pub portal : List ℕ
  pub staging : List ℕ

-- the submission of these operations: the plan that is chosen for them and their barriers, with its prices and pairs, the
-- version of the settings, the plan's cost, and its emission
pub record IsOperationSubmission (s : Limits) (operations : List Operation) (barriers : List Bool) (p : OperationSubmission) : Type 0 where
  pub can : CanBeSubmitted s operations
  pub pieces_are : p.pieces ≡ length operations
  pub chosen :
      IsChosen (WithBarriers (OperationConflictAt operations) barriers) s.greatest_batch (tariff_of s) (length operations)
      p.certificate.prices p.certificate.pairs p.plan
  pub version_is : p.certificate.version ≡ version_of s
  pub cost_is : p.cost ≡ plan_cost (tariff_of s) p.plan
  pub portal_is : p.portal ≡ portal_of spelling_of s p.plan operations
  pub staging_is : p.staging ≡ staging_of spelling_of p.plan operations

-- the outcome of planning operations and barriers: their submission, or the first cause to refuse them, in the order of
-- their number, their sizes and the area (this project's choice)
abbrev pub PlansEntries : Limits → List Operation → List Bool → Result OperationSubmission PlanFault → Type 0
PlansEntries s operations barriers (Ok p) = IsOperationSubmission s operations barriers p
PlansEntries s operations barriers (Err cause) =
    ((cause ≡ Split TooManyPieces) × (most_pieces < length operations))
    ⊎ ((i : ℕ) × (cause ≡ OverTransfer i) × (length operations ≤ most_pieces) × IsFirstOver s.greatest_transfer (map size_of operations) i)
    ⊎ ((i : ℕ) × (cause ≡ Split (StagingMeets i)) × (length operations ≤ most_pieces)
    × FitTransfer s.greatest_transfer (map size_of operations) × IsFirst (TouchesArea (area_of s operations)) operations i)

-- the outcome of a call over the bytes of a list of operations: the first fault of the bytes without their fences as such, or
-- what the call says of the operations that they spell
abbrev pub OverOperations : {X : Type 0} → (List Operation → Result X PlanFault → Type 0) → List ℕ → Result X PlanFault → Type 0
OverOperations Says bytes outcome =
    ((fault : ListFault) × (fault ≢ ListMemory) × IsFirstFaultBy OperationKeeps (unfenced_list bytes) fault × (outcome ≡ Err (InList fault)))
    ⊎ ((operations : List Operation) × (unfenced_list bytes ≡ flat_map spelling_of operations) × AreOfOneOwner spelling_of operations
    × Says operations outcome)

-- the outcome of planning these bytes, with the barriers that their fences are
abbrev pub PlansOperationList : List ℕ → Limits → Result OperationSubmission PlanFault → Type 0
PlansOperationList bytes s outcome = OverOperations (λ operations o. PlansEntries s operations (barriers_of bytes) o) bytes outcome

-- the outcome of judging a plan for these bytes, with the barriers that their fences are
abbrev pub JudgesOperationList : List ℕ → Plan → Limits → Result ℕ PlanFault → Type 0
JudgesOperationList bytes plan s outcome =
    OverOperations (λ operations o. JudgesPiecesBy (WithBarriers (OperationConflictAt operations) (barriers_of bytes)) (map size_of operations) plan s o)
    bytes outcome

-- the plan is legal for the operations of the list and keeps their barriers, no such plan costs less, and the certificate is
-- good for its cost
pub record IsLeastOfOperations (bytes : List ℕ) (s : Limits) (p : OperationSubmission) : Type 0 where
  pub operations : List Operation
  pub ready : AreReady bytes s operations
  pub pieces_are : p.pieces ≡ length operations
  pub least :
      IsLeast (WithBarriers (OperationConflictAt operations) (barriers_of bytes)) s.greatest_batch (tariff_of s) (length operations) p.plan
  pub good :
      IsGood (WithBarriers (OperationConflictAt operations) (barriers_of bytes)) s.greatest_batch (tariff_of s) (length operations)
      p.certificate.prices p.certificate.pairs p.cost

-- what was planned, as contracts see it
abbrev pub operation_submission_of : PlannedOperations → OperationSubmission
operation_submission_of p =
    record {
      pieces = p.pieces;
      plan = p.plan;
      certificate = contents p.certificate;
      cost = p.cost;
      portal = p.emission.portal.items;
      staging = p.emission.staging.items;
    }
