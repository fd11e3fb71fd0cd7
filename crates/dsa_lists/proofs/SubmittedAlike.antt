-- What submits descriptors submits them as operations, and is accepted alike.
use Rattle.std.proofs.Common.{◌≡◌, inl, inr, ℕ, ◌<◌, ◌≤◌, List, [], ◌∷◌, length, map, get_or, sym, subst, ◌∙◌, arith, Ok}
use Rattle.std.specs.Prelude.{All}
use Rattle.std.specs.List.{AllPairs}
use Rattle.std.proofs.lemmas.List.{length-map, get_or-map}
use Rattle.std.proofs.lemmas.List.Elements.{All-map}
use Rattle.dsa_descriptor.specs.declared.descriptor.Descriptor.{Descriptor}
use Rattle.dsa_descriptor.specs.Descriptors.{fields}
use Rattle.dsa_descriptor.specs.Lists.{AgreeOnOwner}
use Rattle.dsa_descriptor.specs.Spans.{InSpan}
use Rattle.dsa_ranges.specs.Pieces.{TouchesAt, descriptors}
use Rattle.dsa_ranges.specs.Ranges.{ConflictAt}
use Rattle.dsa_settings.specs.Staging.{staging_area}
use Rattle.dsa_plan.specs.Certificate.{Contents, IsGood}
use Rattle.dsa_emission.specs.EmissionFaults.{IsEmissionAs}
use Rattle.dsa_settings.specs.Legal.{ConflictsWithin, IsLegal}
use Rattle.dsa_settings.specs.Plan.{Plan, Tariff}
use Rattle.dsa_settings.specs.Settings.{Limits, tariff_of}
use Rattle.dsa_emission.proofs.Places.{portal_map, staging_map}
use Rattle.dsa_calls.proofs.BytesChecked.{descriptors_emission, said_of_plan}
use Rattle.dsa_calls.specs.Checked.{IsShownLeastBy}
use Rattle.dsa_operations.specs.declared.operation.Operation.{Operation}
use Rattle.dsa_operations.specs.declared.operation.Operation.TheVariants as operation
use Rattle.dsa_lists.specs.Laws.{DescriptorsAreSubmittedAlike, OperationsAreSubmittedAlike}
use Rattle.dsa_operations.specs.Operations.{OperationConflictAt, operation_kind, spelling_of}
use Rattle.dsa_operations.proofs.Answered.{are_operations}
use Rattle.dsa_lists.proofs.Listed.{conflict_alike}

abbrev operations_of : List Descriptor → List Operation
operations_of ds = map operation.Descriptor ds

-- ---- the emission

-- a list with a place has an element
some_element : {A : Type 0} (xs : List A) (j : ℕ) → j < length xs → A
some_element [] j inside = absurd (omega arith)
some_element (x ∷ xs) j inside = x

-- any two of a list that is made of another agree
pub all_pairs_map : {A B : Type 0} (R : B → B → Type 0) (h : A → B) (xs : List A) → AllPairs (λ x y. R (h x) (h y)) xs → AllPairs R (map h xs)
all_pairs_map {A} {B} R h xs all i j d lt inside =
    let within_these : j < length xs = omega (arith, inside, length-map xs h) in
    let x = some_element xs j within_these in
    let first = get_or-map h xs i x d (omega (arith, lt, within_these)) in
    let second = get_or-map h xs j x d within_these in
    subst (λ (b : B). R b (get_or (map h xs) j d)) (sym first) (subst (λ (b : B). R (h (get_or xs i x)) b) (sym second) (all i j x lt within_these))

emission_alike : (s : Limits) (portal staging : List ℕ) (plan : Plan) (ds : List Descriptor) → IsEmissionAs descriptors s portal staging plan ds → IsEmissionAs operation_kind s portal staging plan (operations_of ds)
emission_alike s portal staging plan ds m =
    let count : length ds ≡ length (operations_of ds) = sym (length-map ds operation.Descriptor) in
    let can = m.can_be in
    let clear = All-map (λ o. (address : ℕ) → InSpan (staging_area s.staging (length ds)) address → ¬ TouchesAt operation_kind o address) operation.Descriptor ds can.clear in
    record {
      can_be = record {
        covers = can.covers ∙ count;
        few = omega (arith, can.few, count);
        shapes = can.shapes;
        one_owner = all_pairs_map (λ o p. AgreeOnOwner (spelling_of o) (spelling_of p)) operation.Descriptor ds can.one_owner;
        short = All-map (λ o. operation_kind.size o ≤ s.greatest_transfer) operation.Descriptor ds can.short;
        clear = subst (λ (n : ℕ). All (λ o. (address : ℕ) → InSpan (staging_area s.staging n) address → ¬ TouchesAt operation_kind o address) (operations_of ds)) count clear;
      };
      portal_is = m.portal_is ∙ portal_map _ _ spelling_of operation.Descriptor s plan ds;
      staging_is = m.staging_is ∙ staging_map _ _ spelling_of operation.Descriptor plan ds;
    }

-- ---- the plan

-- relations that hold alike have the same conflicts, legal plans and good certificates
module _ (C D : ℕ → ℕ → Type 0) (there : (i j : ℕ) → C i j → D i j) (back : (i j : ℕ) → D i j → C i j) where
  within : (start end a b : ℕ) → ConflictsWithin D start end a b → ConflictsWithin C start end a b
  within start end a b h = record { starts = h.starts; ordered = h.ordered; ends = h.ends; conflict = back a b h.conflict }

  without : (start end a b : ℕ) → ConflictsWithin C start end a b → ConflictsWithin D start end a b
  without start end a b h = record { starts = h.starts; ordered = h.ordered; ends = h.ends; conflict = there a b h.conflict }

  pub legal_alike : (greatest_batch n : ℕ) (plan : Plan) → IsLegal C greatest_batch n plan → IsLegal D greatest_batch n plan
  legal_alike greatest_batch n plan h = record {
    covers = h.covers;
    groups = λ number group at.
        let g = h.groups number group at in
        record { size = g.size; begins = g.begins; separates = λ a b conflict. g.separates a b (within _ _ a b conflict) };
  }

  good_alike : (greatest_batch : ℕ) (tariff : Tariff) (n : ℕ) (c : Contents) (cost : ℕ) → IsGood C greatest_batch tariff n c.prices c.pairs cost → IsGood D greatest_batch tariff n c.prices c.pairs cost
  good_alike greatest_batch tariff n c cost h = record {
    price_count = h.price_count;
    pair_count = h.pair_count;
    conflicting = λ i a b at. without i n a b (h.conflicting i a b at);
    first = h.first;
    last = h.last;
    alone = h.alone;
    together = h.together;
  }

  shown_alike : (s : Limits) (n : ℕ) (plan : Plan) (c : Contents) (cost : ℕ) → IsShownLeastBy C s n plan c cost → IsShownLeastBy D s n plan c cost
  shown_alike s n plan c cost h = record {
    legal = legal_alike s.greatest_batch n plan h.legal;
    version = h.version;
    good = good_alike s.greatest_batch (tariff_of s) n c cost h.good;
    is_cost = h.is_cost;
  }

pub submitted_alike : DescriptorsAreSubmittedAlike
submitted_alike portal staging s c cost (inl (fault, other, first, is)) = cc
submitted_alike portal staging s c cost (inr (plan, ds, emission, shown)) =
    let alike = conflict_alike ds in
    let D = OperationConflictAt (operations_of ds) in
    let here = shown_alike (ConflictAt (map fields ds)) D (λ i j h. (alike i j).0 h) (λ i j h. (alike i j).1 h) s (length ds) plan c cost shown in
    inr (plan, operations_of ds, emission_alike s portal staging plan ds emission, subst (λ (n : ℕ). IsShownLeastBy D s n plan c cost) (sym (length-map ds operation.Descriptor)) here)

pub submitted_back : OperationsAreSubmittedAlike
submitted_back portal staging s c cost plan ds emission accepted =
    let alike = conflict_alike ds in
    let as_descriptors = descriptors_emission s portal staging plan ds emission in
    let said = said_of_plan Operation operation_kind are_operations OperationConflictAt portal staging s c plan (operations_of ds) (Ok cost) (emission_alike s portal staging plan ds as_descriptors) accepted in
    let here = shown_alike (OperationConflictAt (operations_of ds)) (ConflictAt (map fields ds)) (λ i j h. (alike i j).1 h) (λ i j h. (alike i j).0 h) s (length (operations_of ds)) plan c cost said in
    inr (plan, ds, as_descriptors, subst (λ (n : ℕ). IsShownLeastBy (ConflictAt (map fields ds)) s n plan c cost) (length-map ds operation.Descriptor) here)
