-- The fenced pieces of a plan are its fences, each once.
use Rattle.std.proofs.Common.{◌≡◌, inl, inr, ℕ, zero, suc, ◌+◌, ◌-◌, ◌<◌, ◌≤◌, true, false, List, [], ◌∷◌, ◌++◌, length, take, Some, refl, sym, subst, slice_get, arith}
use Rattle.std.specs.Prelude.{All, AllPairs, Contains}
use Rattle.std.proofs.lemmas.Bool.{cases_eq}
use Rattle.std.proofs.lemmas.Option.{same_Some}
use Rattle.std.proofs.lemmas.List.Elements.{All-cons, All-nil, Contains-append_cases, Contains-append_left, Contains-append_right, Contains-push}
use Rattle.std.proofs.lemmas.List.Kept.{AllPairs-cons}
use Rattle.std.proofs.lemmas.List.Sums.{sum_by-cons}
use Rattle.dsa_settings.specs.Plan.{Group, Plan, start_of}
use Rattle.dsa_settings.specs.Legal.{IsFenced}
use Rattle.dsa_reasons.specs.Fences.{fenced_in, fenced_pieces}
use Rattle.dsa_reasons.specs.Laws.{IsFencedIn, EachFenceOnce}

-- ---- of a group

fenced_later : (p : ℕ) (first : _) (g : Group) (k : ℕ) → IsFenced (suc p) g k → IsFenced p (first ∷ g) k
fenced_later p first g k (begun, set) =
    let e : k - p ≡ suc (k - suc p) = omega arith in (omega arith, rw e set)

fenced_earlier : (p : ℕ) (first : _) (g : Group) (k : ℕ) → p < k → IsFenced p (first ∷ g) k → IsFenced (suc p) g k
fenced_earlier p first g k lt (begun, set) =
    let e : k - p ≡ suc (k - suc p) = omega arith in (omega arith, rw e at set)

one_contained : (p k : ℕ) → Contains (p ∷ []) k → p ≡ k
one_contained p k (zero, lt, e) = e
one_contained p k (suc i, lt, e) = absurd (omega arith)

in_is_fenced : (p : ℕ) (g : Group) (k : ℕ) → Contains (fenced_in p g) k → IsFenced p g k
in_is_fenced p [] k (i, lt, e) = absurd (omega arith)
in_is_fenced p (false ∷ g) k here = fenced_later p false g k (in_is_fenced (suc p) g k here)
in_is_fenced p (true ∷ g) k here =
    elim (Contains-append_cases (p ∷ []) (fenced_in (suc p) g) k here) [
      | inl first ↦
          let e : p ≡ k = one_contained p k first in
          let none : k - p ≡ 0 = omega arith in (omega arith, rw none refl)
      | inr later ↦ fenced_later p true g k (in_is_fenced (suc p) g k later)
    ]

fenced_is_in : (p : ℕ) (g : Group) (k : ℕ) → IsFenced p g k → Contains (fenced_in p g) k
fenced_is_in p [] k (begun, set) = absurd cc
fenced_is_in p (false ∷ g) k fenced =
    elim (cases_eq k p) [
      | inl same ↦
          let none : k - p ≡ 0 = omega arith in
          let set : slice_get (false ∷ g) 0 ≡ Some true = rw none at fenced.1 in absurd cc
      | inr other ↦ fenced_is_in (suc p) g k (fenced_earlier p false g k (omega (arith, fenced.0)) fenced)
    ]
fenced_is_in p (true ∷ g) k fenced =
    elim (cases_eq k p) [
      | inl same ↦ rw same (Contains-append_left (p ∷ []) (fenced_in (suc p) g) p (Contains-push [] p))
      | inr other ↦ Contains-append_right (p ∷ []) (fenced_in (suc p) g) k (fenced_is_in (suc p) g k (fenced_earlier p true g k (omega (arith, fenced.0)) fenced))
    ]

-- ---- of a plan whose first group begins with piece s

abbrev Stands : ℕ → Plan → ℕ → Type 0
Stands s plan k = (number : ℕ) × (group : Group) × (slice_get plan number ≡ Some group) × IsFenced (s + start_of plan number) group k

begins_first : (s : ℕ) (plan : Plan) → s + start_of plan 0 ≡ s
begins_first s plan = omega arith

begins_later : (s : ℕ) (g : Group) (plan : Plan) (number : ℕ) → s + start_of (g ∷ plan) (suc number) ≡ s + length g + start_of plan number
begins_later s g plan number =
    let e : start_of (g ∷ plan) (suc number) ≡ length g + start_of plan number = sum_by-cons length g (take number plan) in omega (arith, e)

stands_is_in : (s : ℕ) (plan : Plan) (k : ℕ) → Stands s plan k → Contains (fenced_pieces s plan) k
stands_is_in s [] k (number, group, there, fenced) = absurd cc
stands_is_in s (g ∷ plan) k (zero, group, there, fenced) =
    let same : g ≡ group = same_Some g group there in
    Contains-append_left (fenced_in s g) (fenced_pieces (s + length g) plan) k
    (fenced_is_in s g k (subst (λ (h : Group). IsFenced s h k) (sym same) (subst (λ (z : ℕ). IsFenced z group k) (begins_first s (g ∷ plan)) fenced)))
stands_is_in s (g ∷ plan) k (suc number, group, there, fenced) =
    Contains-append_right (fenced_in s g) (fenced_pieces (s + length g) plan) k
    (stands_is_in (s + length g) plan k (number, group, there, subst (λ (z : ℕ). IsFenced z group k) (begins_later s g plan number) fenced))

in_stands : (s : ℕ) (plan : Plan) (k : ℕ) → Contains (fenced_pieces s plan) k → Stands s plan k
in_stands s [] k (i, lt, e) = absurd (omega arith)
in_stands s (g ∷ plan) k here =
    elim (Contains-append_cases (fenced_in s g) (fenced_pieces (s + length g) plan) k here) [
      | inl first ↦ (0, g, refl, subst (λ (z : ℕ). IsFenced z g k) (sym (begins_first s (g ∷ plan))) (in_is_fenced s g k first))
      | inr later ↦
          let (number, group, there, fenced) = in_stands (s + length g) plan k later in
          (suc number, group, there, subst (λ (z : ℕ). IsFenced z group k) (sym (begins_later s g plan number)) fenced)
    ]

-- ---- in ascending order

low_in : (p : ℕ) (g : Group) (rest : List ℕ) → All (λ x. p + length g ≤ x) rest → All (λ x. p ≤ x) (fenced_in p g ++ rest)
low_in p [] rest low = λ k d lt. omega (arith, low k d lt)
low_in p (false ∷ g) rest low =
    let more : All (λ x. suc p ≤ x) (fenced_in (suc p) g ++ rest) = low_in (suc p) g rest (λ k d lt. omega (arith, low k d lt)) in
    λ k d lt. omega (arith, more k d lt)
low_in p (true ∷ g) rest low =
    let more : All (λ x. suc p ≤ x) (fenced_in (suc p) g ++ rest) = low_in (suc p) g rest (λ k d lt. omega (arith, low k d lt)) in
    All-cons (λ x. p ≤ x) p (fenced_in (suc p) g ++ rest) (omega arith) (λ k d lt. omega (arith, more k d lt))

ascends_in : (p : ℕ) (g : Group) (rest : List ℕ) → All (λ x. p + length g ≤ x) rest → AllPairs (λ a b. a < b) rest → AllPairs (λ a b. a < b) (fenced_in p g ++ rest)
ascends_in p [] rest low pairs = pairs
ascends_in p (false ∷ g) rest low pairs = ascends_in (suc p) g rest (λ k d lt. omega (arith, low k d lt)) pairs
ascends_in p (true ∷ g) rest low pairs =
    let less : All (λ x. suc p + length g ≤ x) rest = λ k d lt. omega (arith, low k d lt) in
    let more : All (λ x. suc p ≤ x) (fenced_in (suc p) g ++ rest) = low_in (suc p) g rest less in
    AllPairs-cons (λ a b. a < b) p (fenced_in (suc p) g ++ rest) (λ k d lt. omega (arith, more k d lt)) (ascends_in (suc p) g rest less pairs)

low_pieces : (s : ℕ) (plan : Plan) → All (λ x. s ≤ x) (fenced_pieces s plan)
low_pieces s [] = All-nil (λ x. s ≤ x)
low_pieces s (g ∷ plan) = low_in s g (fenced_pieces (s + length g) plan) (low_pieces (s + length g) plan)

ascends : (s : ℕ) (plan : Plan) → AllPairs (λ a b. a < b) (fenced_pieces s plan)
ascends s [] = λ i j d lt within. absurd (omega arith)
ascends s (g ∷ plan) = ascends_in s g (fenced_pieces (s + length g) plan) (low_pieces (s + length g) plan) (ascends (s + length g) plan)

-- ---- the law

from_start : (plan : Plan) (number : ℕ) → 0 + start_of plan number ≡ start_of plan number
from_start plan number = omega arith

listed_is_fenced : (plan : Plan) (k : ℕ) → Contains (fenced_pieces 0 plan) k → IsFencedIn plan k
listed_is_fenced plan k here =
    let (number, group, there, fenced) = in_stands 0 plan k here in
    record {
      number = number;
      group = group;
      is_group = there;
      fenced = subst (λ (z : ℕ). IsFenced z group k) (from_start plan number) fenced;
    }

fenced_is_listed : (plan : Plan) (k : ℕ) → IsFencedIn plan k → Contains (fenced_pieces 0 plan) k
fenced_is_listed plan k is =
    stands_is_in 0 plan k (is.number, is.group, is.is_group, subst (λ (z : ℕ). IsFenced z is.group k) (sym (from_start plan is.number)) is.fenced)

pub each_fence_once : EachFenceOnce
each_fence_once plan = (ascends 0 plan, λ k. (listed_is_fenced plan k, fenced_is_listed plan k))
