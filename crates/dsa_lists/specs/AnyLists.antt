-- Lists of descriptors and lists with checksums: what the calls say of either.
use Rattle.std.specs.Prelude.{◌≡◌, ◌⊎◌, ℕ, Bool, List, length, map, Result, Ok, Err}
use Rattle.dsa_descriptor.specs.declared.descriptor.Descriptor.{Descriptor}
use Rattle.dsa_descriptor.specs.Fences.{barriers_of, unfenced_list}
use Rattle.dsa_plan.specs.Certificate.{Contents}
use Rattle.dsa_settings.specs.Plan.{Plan}
use Rattle.dsa_settings.specs.Settings.{Limits}
use Rattle.dsa_calls.specs.declared.checking.FencedFault.{FencedFault}
use Rattle.dsa_calls.specs.declared.fault.PlanFault.{PlanFault}
use Rattle.dsa_calls.specs.Fenced.{AreFencedPieces, IsFencedLeast, JudgesFenced, PlansFenced}
use Rattle.dsa_calls.specs.FencedChecked.{ChecksFenced, IsLeastEmission}
use Rattle.dsa_calls.specs.Lists.{IsListOf}
use Rattle.dsa_calls.specs.Planned.{Submission}
use Rattle.dsa_operations.specs.declared.operation.Operation.{Operation}
use Rattle.dsa_operations.specs.declared.operation.Operation.TheVariants as operation
use Rattle.dsa_lists.specs.declared.pieces.AnyPieces.{AnyPieces}
use Rattle.dsa_lists.specs.declared.pieces.AnyPieces.TheVariants.{Descriptors, Operations}
use Rattle.dsa_lists.specs.Checking.{ChecksOperationList, IsLeastOperationEmission}
use Rattle.dsa_lists.specs.Submissions.{AreReady, IsLeastOfOperations, JudgesOperationList, OperationSubmission, PlansOperationList}

-- the bytes without their fences spell descriptors of one owner
abbrev pub IsOfDescriptors : List ℕ → Type 0
IsOfDescriptors bytes = (ds : List Descriptor) × IsListOf (unfenced_list bytes) ds

-- what was planned of a list of descriptors, with the number of its pieces in place of these
abbrev pub counted : Submission → OperationSubmission
counted p =
    record { pieces = length p.pieces; plan = p.plan; certificate = p.certificate; cost = p.cost; portal = p.portal; staging = p.staging }

-- an outcome seen so
abbrev pub counted_outcome : Result Submission PlanFault → Result OperationSubmission PlanFault
counted_outcome (Ok p) = Ok (counted p)
counted_outcome (Err fault) = Err fault

-- the first if the bytes are a list of descriptors, and else the second
abbrev pub OfAnyList : List ℕ → Type 0 → Type 0 → Type 0
OfAnyList bytes first second = (IsOfDescriptors bytes × first) ⊎ ((¬ IsOfDescriptors bytes) × second)

-- the outcome of planning a list: one of descriptors is planned as such, its long operations split; any other is planned as
-- a list of operations, as they are (this project's choice)
abbrev pub PlansAnyList : List ℕ → Limits → Result OperationSubmission PlanFault → Type 0
PlansAnyList bytes s outcome =
    OfAnyList bytes ((o : Result Submission PlanFault) × PlansFenced bytes s o × (outcome ≡ counted_outcome o)) (PlansOperationList bytes s outcome)

-- the plan is legal for the pieces of the list and keeps their barriers, no such plan costs less, and the certificate is good
-- for its cost
abbrev pub IsLeastOfAnyList : List ℕ → Limits → OperationSubmission → Type 0
IsLeastOfAnyList bytes s p = ((q : Submission) × IsFencedLeast bytes s q × (p ≡ counted q)) ⊎ IsLeastOfOperations bytes s p

-- the outcome of checking an emission for a list
abbrev pub ChecksAnyList : List ℕ → List ℕ → List ℕ → Limits → Contents → Result ℕ FencedFault → Type 0
ChecksAnyList bytes portal staging s c outcome = OfAnyList bytes (ChecksFenced bytes portal staging s c outcome) (ChecksOperationList bytes portal staging s c outcome)

-- the outcome of judging a plan for a list
abbrev pub JudgesAnyList : List ℕ → Plan → Limits → Result ℕ PlanFault → Type 0
JudgesAnyList bytes plan s outcome = OfAnyList bytes (JudgesFenced bytes plan s outcome) (JudgesOperationList bytes plan s outcome)

-- these are the pieces of a list: those into which the operations of a list of descriptors are split, and else the operations
-- of the list, as they are
abbrev pub ArePiecesOfList : List ℕ → Limits → AnyPieces → Type 0
ArePiecesOfList bytes s (Descriptors pieces) = (barriers : List Bool) × AreFencedPieces bytes s pieces.items barriers
ArePiecesOfList bytes s (Operations pieces) = (¬ IsOfDescriptors bytes) × AreReady bytes s pieces.items

-- the same with their barriers, and all as operations
abbrev pub AreAnyPieces : List ℕ → Limits → List Operation → List Bool → Type 0
AreAnyPieces bytes s pieces barriers =
    OfAnyList bytes ((ds : List Descriptor) × AreFencedPieces bytes s ds barriers × (pieces ≡ map operation.Descriptor ds))
    (AreReady bytes s pieces × (barriers ≡ barriers_of bytes))

-- these are the pieces, their barriers and their plan that planning the list answers
pub record IsAnyPlan (bytes : List ℕ) (s : Limits) (pieces : List Operation) (barriers : List Bool) (plan : Plan) : Type 0 where
  pub are_pieces : AreAnyPieces bytes s pieces barriers
  pub submission : OperationSubmission
  pub planned : PlansAnyList bytes s (Ok submission)
  pub count : submission.pieces ≡ length pieces
  pub plan_is : plan ≡ submission.plan

-- this is the cost that planning the list answers
abbrev pub HasCostOf : List ℕ → Limits → ℕ → Type 0
HasCostOf bytes s cost = (submission : OperationSubmission) × PlansAnyList bytes s (Ok submission) × (cost ≡ submission.cost)

-- the bytes submit a plan of this cost for the pieces of the list; it keeps each barrier, and no legal plan that does costs
-- less
abbrev pub IsLeastEmissionOfAnyList : List ℕ → List ℕ → List ℕ → Limits → ℕ → Type 0
IsLeastEmissionOfAnyList bytes portal staging s cost =
    IsLeastEmission bytes portal staging s cost ⊎ IsLeastOperationEmission bytes portal staging s cost
