-- When a list can be prepared, and why it is refused.
use Rattle.std.specs.Prelude.{◌≡◌, ◌⊎◌, ℕ, suc, ◌+◌, ◌<◌, ◌≤◌, List, [], ◌∷◌, length, map, slice_get, slice_index_or, Some, Ok, Err}
use Rattle.std.specs.List.{AllByRecursion, flat_map}
use Rattle.dsa_descriptor.specs.declared.descriptor.Descriptor.{Descriptor}
use Rattle.dsa_descriptor.specs.declared.span.Span.{Span}
use Rattle.dsa_descriptor.specs.Descriptors.{fields}
use Rattle.dsa_descriptor.specs.Spans.{span, IsAddressable}
use Rattle.dsa_settings.specs.Settings.{Limits, AreInLimits}
use Rattle.dsa_settings.specs.Plan.{Plan as GroupPlan}
use Rattle.dsa_descriptor.specs.Fences.{barriers_of, unfenced_list}
use Rattle.dsa_calls.specs.Fenced.{IsSubmissionWith, PlansFenced}
use Rattle.dsa_calls.specs.Lists.{IsListOf}
use Rattle.dsa_calls.specs.Planned.{Submission}
use Rattle.dsa_operations.specs.declared.operation.Operation.{Operation}
use Rattle.dsa_operations.specs.declared.operation.Operation.TheVariants as operation
use Rattle.dsa_lists.specs.AnyLists.{OfAnyList, PlansAnyList}
use Rattle.dsa_operations.specs.Operations.{spelling_of}
use Rattle.dsa_lists.specs.Submissions.{AreReady, IsOperationSubmission, OperationSubmission}
use Rattle.dsa_calls.specs.declared.fault.PlanFault.{PlanFault}
use Rattle.dsa_prepared.specs.Regions.{Region, OperationLies}
use Rattle.dsa_prepared.specs.declared.fault.PrepareFault.{PrepareFault}
use Rattle.dsa_prepared.specs.declared.fault.PrepareFault.TheVariants.{Plan, RegionWrap, RegionOrder, Outside}
use Rattle.dsa_prepared.specs.Templates.{Template, template_of}

-- ---- regions

-- the region of that number
abbrev pub region_at : List Span → ℕ → Span
region_at rs i = slice_index_or rs i (span 0 0)

-- where the region ends: the address after its last
abbrev pub end_of : Span → ℕ
end_of r = r.first + r.len

-- it begins where the region before it ends, or after that
abbrev pub FollowsAt : List Span → ℕ → Type 0
FollowsAt rs i = (j : ℕ) → suc j ≡ i → end_of (region_at rs j) ≤ (region_at rs i).first

-- and does not go past 2^64
abbrev pub IsRegionAt : List Span → ℕ → Type 0
IsRegionAt rs i = IsAddressable (region_at rs i) × FollowsAt rs i

-- regions in the order of their addresses, none of which has an address of another (this project's choice)
abbrev pub AreRegions : List Span → Type 0
AreRegions rs = (i : ℕ) → i < length rs → IsRegionAt rs i

-- each with its new base
abbrev pub relocation : List Span → List ℕ → List Region
relocation [] bases = []
relocation (r ∷ rs) [] = []
relocation (r ∷ rs) (base ∷ bases) = record { base = r.first; len = r.len; new_base = base } ∷ relocation rs bases

-- ---- what is prepared

-- operations are kept so: each of their ranges lies in one of the regions, and this is the template of them, their pieces and
-- the plan
pub record IsKept (s : Limits) (rs : List Span) (operations pieces : List Operation) (plan : GroupPlan) (t : Template) : Type 0 where
  pub limits : AreInLimits s
  pub regions : AreRegions rs
  pub lie : AllByRecursion (OperationLies rs s.greatest_transfer) operations
  pub template : t ≡ template_of rs operations plan pieces

-- This is the template of the submission that planning the list answers: the bytes without their fences spell these
-- descriptors, this is their submission with the fences as barriers, and it is kept.
pub record IsPreparedOf (list : List ℕ) (s : Limits) (rs : List Span) (ds : List Descriptor) (t : Template) : Type 0 where
  pub listed : IsListOf (unfenced_list list) ds
  pub submission : Submission
  pub planned : IsSubmissionWith (barriers_of list) s (map fields ds) submission
  pub kept : IsKept s rs (map operation.Descriptor ds) (map operation.Descriptor submission.pieces) submission.plan t

-- and the plan costs this
abbrev pub IsCostedOf : List ℕ → Limits → List Span → List Descriptor → Template → ℕ → Type 0
IsCostedOf list s rs ds t cost = (prepared : IsPreparedOf list s rs ds t) × (cost ≡ prepared.submission.cost)

-- the same of operations, which are planned as they are
pub record IsPreparedOfOperations (list : List ℕ) (s : Limits) (rs : List Span) (operations : List Operation) (t : Template) : Type 0 where
  pub ready : AreReady list s operations
  pub submission : OperationSubmission
  pub planned : IsOperationSubmission s operations (barriers_of list) submission
  pub kept : IsKept s rs operations operations submission.plan t

-- and the plan costs this
abbrev pub AreCostedOperations : List ℕ → Limits → List Span → List Operation → Template → ℕ → Type 0
AreCostedOperations list s rs operations t cost =
    (prepared : IsPreparedOfOperations list s rs operations t) × (cost ≡ prepared.submission.cost)

-- a list of descriptors is prepared as such, any other as a list of operations (this project's choice, as it is planned so)
abbrev pub IsAnyPreparedOf : List ℕ → Limits → List Span → List Operation → Template → Type 0
IsAnyPreparedOf list s rs operations t =
    OfAnyList list ((ds : List Descriptor) × IsPreparedOf list s rs ds t × (operations ≡ map operation.Descriptor ds))
    (IsPreparedOfOperations list s rs operations t)

-- and the plan costs this
abbrev pub IsAnyCostedOf : List ℕ → Limits → List Span → List Operation → Template → ℕ → Type 0
IsAnyCostedOf list s rs operations t cost =
    OfAnyList list ((ds : List Descriptor) × IsCostedOf list s rs ds t cost × (operations ≡ map operation.Descriptor ds))
    (AreCostedOperations list s rs operations t cost)

-- ---- refusals

-- the first cause why regions are refused
abbrev pub IsRegionFault : List Span → PrepareFault → Type 0
IsRegionFault rs (Plan fault) = ⊥
IsRegionFault rs (RegionWrap i) = (i < length rs) × ((j : ℕ) → j < i → IsRegionAt rs j) × ¬ IsAddressable (region_at rs i)
IsRegionFault rs (RegionOrder i) =
    (i < length rs) × ((j : ℕ) → j < i → IsRegionAt rs j) × IsAddressable (region_at rs i) × ¬ FollowsAt rs i
IsRegionFault rs (Outside i) = ⊥

-- each operation before that number lies in the regions, and this one does not
pub record IsFirstOutside (rs : List Span) (greatest : ℕ) (operations : List Operation) (i : ℕ) : Type 0 where
  pub operation : Operation
  pub there : slice_get operations i ≡ Some operation
  pub outside : ¬ OperationLies rs greatest operation
  pub before : (j : ℕ) (o : Operation) → j < i → slice_get operations j ≡ Some o → OperationLies rs greatest o

-- The first cause why a list is not prepared, in this order: what planning it refuses; the least region that goes past
-- 2^64, or else begins before the one before it has ended; the least operation that has a range, or the row of records, in
-- no one region. `Refuses`, `Planned` and `Spells` say what planning refuses of the list, that it answers, and which
-- operations the bytes spell.
abbrev pub IsFirstCauseBy : (PlanFault → Type 0) → Type 0 → (List Operation → Type 0) → Limits → List Span → PrepareFault → Type 0
IsFirstCauseBy Refuses Planned Spells s rs (Plan fault) = Refuses fault
IsFirstCauseBy Refuses Planned Spells s rs (RegionWrap i) = Planned × IsRegionFault rs (RegionWrap i)
IsFirstCauseBy Refuses Planned Spells s rs (RegionOrder i) = Planned × IsRegionFault rs (RegionOrder i)
IsFirstCauseBy Refuses Planned Spells s rs (Outside i) =
    Planned × AreRegions rs × ((operations : List Operation) × Spells operations × IsFirstOutside rs s.greatest_transfer operations i)

-- the bytes without their fences spell these operations, which are descriptors of one owner
abbrev pub SpellDescriptors : List ℕ → List Operation → Type 0
SpellDescriptors list operations = (ds : List Descriptor) × IsListOf (unfenced_list list) ds × (operations ≡ map operation.Descriptor ds)

-- the first cause why a list of descriptors is not prepared
abbrev pub IsFirstPrepareFault : List ℕ → Limits → List Span → PrepareFault → Type 0
IsFirstPrepareFault list s rs fault =
    IsFirstCauseBy (λ f. PlansFenced list s (Err f)) ((p : Submission) × PlansFenced list s (Ok p)) (SpellDescriptors list) s rs fault

-- the bytes without their fences spell these operations
abbrev pub SpellOperations : List ℕ → List Operation → Type 0
SpellOperations list operations = unfenced_list list ≡ flat_map spelling_of operations

-- the first cause why a list that may have checksums is not prepared
abbrev pub IsFirstAnyPrepareFault : List ℕ → Limits → List Span → PrepareFault → Type 0
IsFirstAnyPrepareFault list s rs fault =
    IsFirstCauseBy (λ f. PlansAnyList list s (Err f)) ((p : OperationSubmission) × PlansAnyList list s (Ok p)) (SpellOperations list) s rs fault

-- ---- for private clauses

-- the first cause why planned operations are not kept
abbrev pub IsPlaceFault : Limits → List Span → List Operation → PrepareFault → Type 0
IsPlaceFault s rs operations fault =
    IsRegionFault rs fault
    ⊎ ((i : ℕ) × (fault ≡ Outside i) × AreRegions rs × IsFirstOutside rs s.greatest_transfer operations i)
