-- What preparing has of a planned list, and that one cause at most is the first why a list is not prepared.
use Rattle.std.proofs.Common.{◌≡◌, ◌⊎◌, ℕ, ◌<◌, ◌≤◌, inl, inr, Bool, Some, List, [], ◌∷◌, length, map, get_or, option_map, slice_get, Result, Ok, Err, refl, sym, ap, subst, ◌∙◌, arith}
use Rattle.std.specs.Prelude.{All, IfErr, IfOk, slice_index_or}
use Rattle.std.specs.List.{AllByRecursion}
use Rattle.std.proofs.lemmas.Bool.{cases_order}
use Rattle.std.proofs.lemmas.List.{get_or_default, length-map}
use Rattle.std.proofs.lemmas.Option.{slice_get-map}
use Rattle.dsa_descriptor.specs.declared.descriptor.Descriptor.{Descriptor}
use Rattle.dsa_descriptor.specs.declared.span.Span.{Span}
use Rattle.dsa_descriptor.specs.Descriptors.{fields}
use Rattle.dsa_descriptor.specs.Fences.{barriers_of, unfenced_list}
use Rattle.dsa_descriptor.specs.Fields.{Fields}
use Rattle.dsa_descriptor.specs.Pieces.{most_pieces}
use Rattle.dsa_descriptor.specs.Spans.{IsAddressable}
use Rattle.dsa_operations.specs.declared.operation.Operation.{Operation}
use Rattle.dsa_operations.specs.declared.operation.Operation.TheVariants as operation
use Rattle.dsa_operations.specs.Operations.{OperationConflictAt, size_of}
use Rattle.dsa_settings.specs.Barriers.{WithBarriers}
use Rattle.dsa_plan.specs.Chain.{Pairs}
use Rattle.dsa_settings.specs.Plan.{Plan as GroupPlan}
use Rattle.dsa_settings.specs.Settings.{Limits, tariff_of}
use Rattle.dsa_splitter.specs.Operations.{IsSplittable}
use Rattle.dsa_splitter.proofs.OnePiece.{short_may_split}
use Rattle.dsa_splitter.proofs.Walks.{length_all}
use Rattle.dsa_search.specs.Chosen.{IsChosen}
use Rattle.dsa_search.proofs.Choosing.{chosen_is_least}
use Rattle.dsa_calls.specs.declared.fault.PlanFault.{PlanFault}
use Rattle.dsa_calls.specs.declared.fault.PlanFault.TheVariants.{Memory}
use Rattle.dsa_calls.specs.Fenced.{IsSubmissionWith, PiecesConflict, PlansFenced}
use Rattle.dsa_calls.specs.Lists.{IsListOf}
use Rattle.dsa_calls.specs.Planned.{Submission}
use Rattle.dsa_calls.proofs.FencedPlans.{one_fenced_plan}
use Rattle.dsa_calls.proofs.Over.{one_list}
use Rattle.dsa_lists.specs.Submissions.{IsOperationSubmission, OperationSubmission}
use Rattle.dsa_prepared.specs.Regions.{AllLieInOne, AllPiecesLie, IsOneOrSplittable, OperationLies}
use Rattle.dsa_prepared.specs.declared.fault.PrepareFault.{PrepareFault}
use Rattle.dsa_prepared.specs.declared.fault.PrepareFault.TheVariants.{Plan as InPlan, RegionWrap, RegionOrder, Outside}
use Rattle.dsa_prepared.specs.Sound.{AreNonempty, CanBeKept, IsSplitInto}
use Rattle.dsa_prepared.specs.Templates.{Template}
use Rattle.dsa_prepared.specs.Preparing.{AreRegions, FollowsAt, region_at, IsCostedOf, IsFirstCauseBy, IsFirstOutside, IsFirstPrepareFault, IsKept, IsPlaceFault, IsRegionFault, SpellDescriptors}
use Rattle.dsa_prepared.proofs.AsOperations.{pieces_of, splittable_of, whole_of}
use Rattle.dsa_prepared.proofs.Outside.{is_there}
use Rattle.dsa_prepared.proofs.PiecesLie.{pieces_lie}
use Rattle.dsa_prepared.proofs.Planned.{op_lies, ops_lie}
use Rattle.dsa_prepared.proofs.Submissions.{all_at}

-- ---- what was planned

pub never_both : {X : Type 0} (p : X) (f : PlanFault) → ◌≡◌ {A = Result X PlanFault} (Ok p) (Err f) → ⊥
never_both p f is = cc

pub same_fault : {X : Type 0} (f g : PlanFault) → ◌≡◌ {A = Result X PlanFault} (Err f) (Err g) → f ≡ g
same_fault f g is = cc

field_there : (ds : List Descriptor) (i : ℕ) (d : Descriptor) → i < length ds → d ≡ get_or ds i d → slice_get (map fields ds) i ≡ Some (fields d)
field_there ds i d lt is = slice_get-map fields ds i ∙ ap (option_map fields) (is_there ds i d lt is)

all_splittable : (s : Limits) (ds pieces : List Descriptor) → IsSplitInto s ds pieces → All (λ d. IsSplittable d.op d.size s.greatest_transfer) ds
all_splittable s ds pieces h k d lt =
    let x : Descriptor = slice_index_or ds k d in
    (h.split.few.may_split k (fields x) (field_there ds k x lt (get_or_default ds k d x lt))).splittable

few_pieces : (s : Limits) (ds pieces : List Descriptor) → IsSplitInto s ds pieces → length pieces ≤ most_pieces
few_pieces s ds pieces h = omega (arith, h.split.few.few, ap length h.pieces_are, length_all (map fields ds) s.greatest_transfer, length-map pieces fields)

chosen_nonempty : (C : ℕ → ℕ → Type 0) (s : Limits) (n : ℕ) (costs : List ℕ) (pairs : Pairs) (plan : GroupPlan) → IsChosen C s.greatest_batch (tariff_of s) n costs pairs plan → AreNonempty plan
chosen_nonempty C s n costs pairs plan chosen number group is =
    let least = chosen_is_least C s.greatest_batch (tariff_of s) n costs pairs plan chosen in
    (least.0.legal.groups number group is).size.nonempty

-- descriptors and the pieces that they are split into
pub descriptors_kept : (marks : List Bool) (s : Limits) (ds : List Descriptor) (p : Submission) → IsSubmissionWith marks s (map fields ds) p →
    CanBeKept s (map operation.Descriptor ds) (map operation.Descriptor p.pieces) p.plan
descriptors_kept marks s ds p h =
    let g : ℕ = s.greatest_transfer in
    let is : IsSplitInto s ds p.pieces = record { split = h.split; pieces_are = h.pieces_are } in
    let count = length-map p.pieces operation.Descriptor in
    let few = few_pieces s ds p.pieces is in
    record {
      splittable = splittable_of g ds (all_splittable s ds p.pieces is);
      lie = λ pos rs whole. (
        pieces_of rs ds (ops_lie rs g ds pos (whole_of rs g ds whole)),
        pieces_of rs p.pieces (subst (λ (fs : List Fields). AllLieInOne rs fs) (sym h.pieces_are) (pieces_lie rs g (map fields ds) pos (whole_of rs g ds whole))),
      );
      covers = h.of_pieces.chosen.has_plan.covers ∙ sym count;
      few = omega (arith, few, count);
      nonempty = chosen_nonempty (PiecesConflict s (map fields ds) marks (map fields p.pieces)) s (length p.pieces) p.certificate.prices p.certificate.pairs p.plan h.of_pieces.chosen;
    }

-- operations that are planned as they are
one_or_splittable : (g : ℕ) (o : Operation) → size_of o ≤ g → IsOneOrSplittable g o
one_or_splittable g (operation.Descriptor d) short = (short_may_split (fields d) g d.listed short).splittable
one_or_splittable g (operation.Checksum c) short = tt

pub as_they_lie : (rs : List Span) (g : ℕ) (os : List Operation) → 0 < g → AllByRecursion (OperationLies rs g) os → AllPiecesLie rs os
as_they_lie rs g [] pos whole = tt
as_they_lie rs g (operation.Descriptor d ∷ os) pos whole = (op_lies rs g (fields d) pos d.listed whole.0, as_they_lie rs g os pos whole.1)
as_they_lie rs g (operation.Checksum c ∷ os) pos whole = (whole.0, as_they_lie rs g os pos whole.1)

pub operations_kept : (marks : List Bool) (s : Limits) (os : List Operation) (p : OperationSubmission) → IsOperationSubmission s os marks p → CanBeKept s os os p.plan
operations_kept marks s os p h =
    let g : ℕ = s.greatest_transfer in
    record {
      splittable = λ k o lt.
          let x : Operation = slice_index_or os k o in
          let short : size_of x ≤ g = h.can.short k (size_of x) (slice_get-map size_of os k ∙ ap (option_map size_of) (is_there os k x lt (get_or_default os k o x lt))) in
          one_or_splittable g x short;
      lie = λ pos rs whole. let lie = as_they_lie rs g os pos whole in (lie, lie);
      covers = h.chosen.has_plan.covers;
      few = h.can.few;
      nonempty = chosen_nonempty (WithBarriers (OperationConflictAt os) marks) s (length os) p.certificate.prices p.certificate.pairs p.plan h.chosen;
    }

-- ---- one cause at most

addressed : (rs : List Span) (i j : ℕ) → i ≡ j → IsAddressable (region_at rs i) → IsAddressable (region_at rs j)
addressed rs i j same at = subst (λ (n : ℕ). IsAddressable (region_at rs n)) same at

followed : (rs : List Span) (i j : ℕ) → i ≡ j → FollowsAt rs i → FollowsAt rs j
followed rs i j same at = subst (λ (n : ℕ). FollowsAt rs n) same at

one_region_fault : (rs : List Span) (f g : PrepareFault) → IsRegionFault rs f → IsRegionFault rs g → f ≡ g
one_region_fault rs (InPlan f) g p q = absurd p
one_region_fault rs (Outside i) g p q = absurd p
one_region_fault rs (RegionWrap i) (InPlan g) p q = absurd q
one_region_fault rs (RegionWrap i) (Outside j) p q = absurd q
one_region_fault rs (RegionWrap i) (RegionWrap j) p q =
    elim (cases_order i j) [
      | inl same ↦ ap RegionWrap same
      | inr (inl less) ↦ absurd (p.2 (q.1 i less).0)
      | inr (inr more) ↦ absurd (q.2 (p.1 j more).0)
    ]
one_region_fault rs (RegionWrap i) (RegionOrder j) p q =
    elim (cases_order i j) [
      | inl same ↦ absurd (p.2 (addressed rs j i (sym same) q.2))
      | inr (inl less) ↦ absurd (p.2 (q.1 i less).0)
      | inr (inr more) ↦ absurd (q.3 (p.1 j more).1)
    ]
one_region_fault rs (RegionOrder i) (InPlan g) p q = absurd q
one_region_fault rs (RegionOrder i) (Outside j) p q = absurd q
one_region_fault rs (RegionOrder i) (RegionWrap j) p q =
    elim (cases_order i j) [
      | inl same ↦ absurd (q.2 (addressed rs i j same p.2))
      | inr (inl less) ↦ absurd (p.3 (q.1 i less).1)
      | inr (inr more) ↦ absurd (q.2 (p.1 j more).0)
    ]
one_region_fault rs (RegionOrder i) (RegionOrder j) p q =
    elim (cases_order i j) [
      | inl same ↦ ap RegionOrder same
      | inr (inl less) ↦ absurd (p.3 (q.1 i less).1)
      | inr (inr more) ↦ absurd (q.3 (p.1 j more).1)
    ]

pub no_region_fault : (rs : List Span) (f : PrepareFault) → AreRegions rs → IsRegionFault rs f → ⊥
no_region_fault rs (InPlan f) all p = p
no_region_fault rs (Outside i) all p = p
no_region_fault rs (RegionWrap i) all p = p.2 (all i p.0).0
no_region_fault rs (RegionOrder i) all p = p.3 (all i p.0).1

outside_same : (rs : List Span) (greatest : ℕ) (os : List Operation) (i j : ℕ) → IsFirstOutside rs greatest os i → IsFirstOutside rs greatest os j → i ≡ j
outside_same rs greatest os i j p q =
    elim (cases_order i j) [
      | inl same ↦ same
      | inr (inl less) ↦ absurd (p.outside (q.before i p.operation less p.there))
      | inr (inr more) ↦ absurd (q.outside (p.before j q.operation more q.there))
    ]

-- what planning says of a list: it refuses it or answers it, for one cause, and the bytes spell one list of operations
pub record SaysOne (Refuses : PlanFault → Type 0) (Planned : Type 0) (Spells : List Operation → Type 0) : Type 0 where
  pub either : (f : PlanFault) → Refuses f → Planned → ⊥
  pub one : (f g : PlanFault) → Refuses f → Refuses g → f ≡ g
  pub same : (os ps : List Operation) → Spells os → Spells ps → ps ≡ os

module _ (Refuses : PlanFault → Type 0) (Planned : Type 0) (Spells : List Operation → Type 0) (says : SaysOne Refuses Planned Spells) (s : Limits) (rs : List Span) where
  abbrev First : PrepareFault → Type 0
  First = IsFirstCauseBy Refuses Planned Spells s rs

  pub one_cause : (f g : PrepareFault) → First f → First g → f ≡ g
  one_cause (InPlan f) (InPlan g) p q = ap InPlan (says.one f g p q)
  one_cause (InPlan f) (RegionWrap j) p q = absurd (says.either f p q.0)
  one_cause (InPlan f) (RegionOrder j) p q = absurd (says.either f p q.0)
  one_cause (InPlan f) (Outside j) p q = absurd (says.either f p q.0)
  one_cause (RegionWrap i) (InPlan g) p q = absurd (says.either g q p.0)
  one_cause (RegionWrap i) (RegionWrap j) p q = one_region_fault rs (RegionWrap i) (RegionWrap j) p.1 q.1
  one_cause (RegionWrap i) (RegionOrder j) p q = one_region_fault rs (RegionWrap i) (RegionOrder j) p.1 q.1
  one_cause (RegionWrap i) (Outside j) p q = absurd (no_region_fault rs (RegionWrap i) q.1 p.1)
  one_cause (RegionOrder i) (InPlan g) p q = absurd (says.either g q p.0)
  one_cause (RegionOrder i) (RegionWrap j) p q = one_region_fault rs (RegionOrder i) (RegionWrap j) p.1 q.1
  one_cause (RegionOrder i) (RegionOrder j) p q = one_region_fault rs (RegionOrder i) (RegionOrder j) p.1 q.1
  one_cause (RegionOrder i) (Outside j) p q = absurd (no_region_fault rs (RegionOrder i) q.1 p.1)
  one_cause (Outside i) (InPlan g) p q = absurd (says.either g q p.0)
  one_cause (Outside i) (RegionWrap j) p q = absurd (no_region_fault rs (RegionWrap j) p.1 q.1)
  one_cause (Outside i) (RegionOrder j) p q = absurd (no_region_fault rs (RegionOrder j) p.1 q.1)
  one_cause (Outside i) (Outside j) p q =
      let same : q.2.0 ≡ p.2.0 = says.same p.2.0 q.2.0 p.2.1 q.2.1 in
      let here = subst (λ (os : List Operation). IsFirstOutside rs s.greatest_transfer os j) same q.2.2 in
      ap Outside (outside_same rs s.greatest_transfer p.2.0 i j p.2.2 here)

  -- what is prepared has no cause
  pub no_cause : Planned → AreRegions rs → (os : List Operation) → Spells os → AllByRecursion (OperationLies rs s.greatest_transfer) os → (f : PrepareFault) → First f → ⊥
  no_cause planned regions os spelt lie (InPlan f) h = says.either f h planned
  no_cause planned regions os spelt lie (RegionWrap i) h = no_region_fault rs (RegionWrap i) regions h.1
  no_cause planned regions os spelt lie (RegionOrder i) h = no_region_fault rs (RegionOrder i) regions h.1
  no_cause planned regions os spelt lie (Outside i) h =
      let same : h.2.0 ≡ os = says.same os h.2.0 spelt h.2.1 in
      let first = subst (λ (ps : List Operation). IsFirstOutside rs s.greatest_transfer ps i) same h.2.2 in
      first.outside (all_at (OperationLies rs s.greatest_transfer) os i first.operation lie first.there)

  -- a cause, as the code finds it, is the first
  pub place_first : (os : List Operation) (f : PrepareFault) → Planned → Spells os → IsPlaceFault s rs os f → First f
  place_first os (InPlan f) planned spelt (inl h) = absurd h
  place_first os (RegionWrap i) planned spelt (inl h) = (planned, h)
  place_first os (RegionOrder i) planned spelt (inl h) = (planned, h)
  place_first os (Outside i) planned spelt (inl h) = absurd h
  place_first os f planned spelt (inr (i, is, regions, first)) = subst (λ (x : PrepareFault). First x) (sym is) (planned, regions, (os, spelt, first))

  -- so that the first cause is the answer
  pub refused_by : {X : Type 0} (Kept : X → Type 0) → ((x : X) → Kept x → (f : PrepareFault) → First f → ⊥) → (r : Result X PrepareFault) → IfOk r Kept
      → IfErr r (λ f. (f ≡ InPlan Memory) ⊎ First f) → (f : PrepareFault) → First f → (r ≡ Err f) ⊎ (r ≡ Err (InPlan Memory))
  refused_by Kept none (Ok x) kept told f first = absurd (none x kept f first)
  refused_by Kept none (Err g) kept (inl memory) f first = inr (ap Err memory)
  refused_by Kept none (Err g) kept (inr here) f first = inl (ap Err (one_cause g f here first))

-- ---- lists of descriptors

module _ (list : List ℕ) (s : Limits) where
  abbrev pub Planned : Type 0
  Planned = (p : Submission) × PlansFenced list s (Ok p)

  same_descriptors : (os ps : List Operation) → SpellDescriptors list os → SpellDescriptors list ps → ps ≡ os
  same_descriptors os ps (ds, listed, is) (es, listed', is') = is' ∙ ap (map operation.Descriptor) (one_list (unfenced_list list) ds es listed listed') ∙ sym is

  pub says : SaysOne (λ f. PlansFenced list s (Err f)) Planned (SpellDescriptors list)
  says =
      record {
        either = λ f refused planned. never_both planned.0 f (one_fenced_plan list s (Ok planned.0) (Err f) planned.1 refused);
        one = λ f g p q. same_fault {X = Submission} f g (one_fenced_plan list s (Err f) (Err g) p q);
        same = same_descriptors;
      }

  -- what is prepared has no cause
  pub no_cause_of : (rs : List Span) (ds : List Descriptor) (t : Template) (cost : ℕ) → IsCostedOf list s rs ds t cost → (f : PrepareFault) → IsFirstPrepareFault list s rs f → ⊥
  no_cause_of rs ds t cost (k, is) =
      no_cause (λ f. PlansFenced list s (Err f)) Planned (SpellDescriptors list) says s rs (k.submission, inr (ds, k.listed, k.planned)) k.kept.regions (map operation.Descriptor ds) (ds, k.listed, refl)
      k.kept.lie

-- ---- what is kept is prepared

pub costed_of : (list : List ℕ) (s : Limits) (rs : List Span) (ds : List Descriptor) (marks : List Bool) (p : Submission) (t : Template) → IsListOf (unfenced_list list) ds → marks ≡ barriers_of list →
    IsSubmissionWith marks s (map fields ds) p → IsKept s rs (map operation.Descriptor ds) (map operation.Descriptor p.pieces) p.plan t → IsCostedOf list s rs ds t p.cost
costed_of list s rs ds marks p t listed is planned h = (
  record {
    listed = listed;
    submission = p;
    planned = subst (λ (of : List Bool). IsSubmissionWith of s (map fields ds) p) is planned;
    kept = h;
  },
  refl,
)
