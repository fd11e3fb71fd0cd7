-- What makes a plan legal, and that it has one first fault where it isn't.
use Rattle.std.proofs.Common.{ℕ, zero, suc, ◌≡◌, ◌+◌, ◌-◌, ◌<◌, ◌≤◌, ◌⊎◌, inl, inr, Bool, true, false, [], ◌∷◌, Option, length, take, get_or, Some, None, refl, sym, ap, ◌∙◌, subst, slice_get, arith}
use Rattle.std.specs.Prelude.{Result, Ok, Err}
use Rattle.std.proofs.lemmas.Bool.{cases_lt, cases_eq, true≢false}
use Rattle.std.proofs.lemmas.Option.{same_Some, none-some, slice_get_within, slice_get-get_or}
use Rattle.std.proofs.lemmas.List.Sums.{sum_by-cons}
use Rattle.dsa_settings.specs.declared.legal.LegalFault.{LegalFault}
use Rattle.dsa_settings.specs.declared.legal.LegalFault.TheVariants.{Count, GroupSize, FirstFence, Unfenced}
use Rattle.dsa_settings.specs.Plan.{Group, Plan, piece_count, start_of}
use Rattle.dsa_settings.specs.Legal.{IsFenced, SeparatesConflicts, HasGroupSize, IsLegalGroup, IsLegal}
use Rattle.dsa_settings.specs.Shapes.{HasGroupShape, HasGroupShapes}
use Rattle.dsa_settings.specs.LegalFaults.{IsFirstSizeFault, IsFirstFenceFault, IsUnfencedWithin, HasNoUnfenced, IsLastUnfenced, IsFencedWithin, IsFirstUnfencedWithin, IsUnfenced, IsFencedThroughout, IsFirstUnfenced, IsFirstLegalFault}
use Rattle.dsa_settings.proofs.Plans.{start_of-next}

-- Fences of one group

true_or_not : (o : Option Bool) → (o ≡ Some true) ⊎ (o ≡ Some true → ⊥)
true_or_not None = inr (λ e. none-some true e)
true_or_not (Some true) = inl refl
true_or_not (Some false) = inr (λ e. true≢false (sym (same_Some false true e)))

fenced_or_not : (start : ℕ) (g : Group) (k : ℕ) → IsFenced start g k ⊎ (IsFenced start g k → ⊥)
fenced_or_not start g k =
    elim (cases_lt k start) [
      | inl before ↦ inr (λ f. absurd (omega (arith, f.0)))
      | inr from ↦ elim (true_or_not (slice_get g (k - start))) [
        | inl held ↦ inl (from, held)
        | inr open_here ↦ inr (λ f. open_here f.1)
      ]
    ]

-- a flag that was read as false
pub not_fenced : (g : Group) (k : ℕ) → k < length g → get_or g k false ≡ false → slice_get g k ≡ Some true → ⊥
not_fenced g k within read e = true≢false (same_Some true false (sym e ∙ slice_get-get_or g k false within ∙ ap Some read))

-- some piece after i and up to j is fenced, or none is
fence_or_none : (start : ℕ) (g : Group) (i j : ℕ) →
    ((k : ℕ) × (i < k) × (k ≤ j) × IsFenced start g k) ⊎ ((k : ℕ) → i < k → k ≤ j → IsFenced start g k → ⊥)
fence_or_none start g i zero = inr (λ k after up_to f. absurd (omega arith))
fence_or_none start g i (suc j) =
    elim (fence_or_none start g i j) [
      | inl found ↦ inl (found.0, found.1, omega (arith, found.2), found.3)
      | inr none ↦ elim (fenced_or_not start g (suc j)) [
        | inr open_here ↦ inr (λ k after up_to f.
            elim (cases_eq k (suc j)) [
              | inl same ↦ open_here (subst (λ (z : ℕ). IsFenced start g z) same f)
              | inr other ↦ none k after (omega arith) f
            ])
        | inl held ↦ elim (cases_lt i (suc j)) [
          | inl after ↦ inl (suc j, after, omega arith, held)
          | inr late ↦ inr (λ k after up_to f. absurd (omega arith))
        ]
      ]
    ]

separates_from : (C : ℕ → ℕ → Type 0) (start : ℕ) (g : Group) → IsFencedWithin C start g → SeparatesConflicts C start g
separates_from C start g fenced a b pair =
    elim (fence_or_none start g a b) [
      | inl found ↦ found
      | inr none ↦ absurd (fenced a b (record { pair = pair; unfenced = none }))
    ]

-- The search within one group

-- where piece i is fenced, no piece before it is in such a pair
pub none_over_fence : (C : ℕ → ℕ → Type 0) (start : ℕ) (g : Group) (i at : ℕ) → start ≤ i → i ≤ at →
    slice_get g (i - start) ≡ Some true → ((x : ℕ) → i ≤ x → x < at → C x at → ⊥) → HasNoUnfenced C start g at
none_over_fence C start g i at from before fenced apart x h =
    elim (cases_lt x i) [
      | inl early ↦ h.unfenced i early before (from, fenced)
      | inr late ↦ apart x late h.pair.ordered h.pair.conflict
    ]

pub none_from_start : (C : ℕ → ℕ → Type 0) (start : ℕ) (g : Group) (i at : ℕ) → i ≤ start →
    ((x : ℕ) → i ≤ x → x < at → C x at → ⊥) → HasNoUnfenced C start g at
none_from_start C start g i at at_start apart x h = apart x (omega (arith, h.pair.starts)) h.pair.ordered h.pair.conflict

-- piece i is not fenced, nor is one after it and up to `at`
pub unfenced_more : (start : ℕ) (g : Group) (i at : ℕ) → start < i → ((slice_get g (i - start) ≡ Some true) → ⊥) →
    ((k : ℕ) → i < k → k ≤ at → IsFenced start g k → ⊥) → (k : ℕ) → i - 1 < k → k ≤ at → IsFenced start g k → ⊥
unfenced_more start g i at from here later k after up_to f =
    elim (cases_eq k i) [
      | inl same ↦ here (subst (λ (z : ℕ). slice_get g (z - start) ≡ Some true) same f.1)
      | inr other ↦ later k (omega arith) up_to f
    ]

pub apart_more : (P : ℕ → Type 0) (i at : ℕ) → 0 < i → (P (i - 1) → ⊥) → ((x : ℕ) → i ≤ x → x < at → P x → ⊥) →
    (x : ℕ) → i - 1 ≤ x → x < at → P x → ⊥
apart_more P i at some here later x from before p =
    elim (cases_eq x (i - 1)) [
      | inl same ↦ here (subst P same p)
      | inr other ↦ later x (omega arith) before p
    ]

pub last_unfenced : (C : ℕ → ℕ → Type 0) (start : ℕ) (g : Group) (i at : ℕ) → start < i → i ≤ at → at < start + length g →
    C (i - 1) at → ((k : ℕ) → i - 1 < k → k ≤ at → IsFenced start g k → ⊥) → ((x : ℕ) → i ≤ x → x < at → C x at → ⊥) →
    IsLastUnfenced C start g (i - 1) at
last_unfenced C start g i at from before within conflict unfenced apart = record {
  stands = record {
    pair = record { starts = omega arith; ordered = omega arith; ends = within; conflict = conflict };
    unfenced = unfenced;
  };
  greatest = λ x h.
      elim (cases_lt x i) [
        | inl early ↦ omega arith
        | inr late ↦ absurd (apart x late h.pair.ordered h.pair.conflict)
      ];
}

pub first_within : (C : ℕ → ℕ → Type 0) (start : ℕ) (g : Group) (i at : ℕ) → IsLastUnfenced C start g i at →
    ((j : ℕ) → j < at → HasNoUnfenced C start g j) → IsFirstUnfencedWithin C start g i at
first_within C start g i at last before = record {
  stands = last.stands;
  least = λ x y h.
      elim (cases_lt y at) [
        | inl early ↦ absurd (before y early x h)
        | inr late ↦ late
      ];
  greatest = last.greatest;
}

pub all_within : (C : ℕ → ℕ → Type 0) (start : ℕ) (g : Group) (end : ℕ) → start + length g ≤ end →
    ((j : ℕ) → j < end → HasNoUnfenced C start g j) → IsFencedWithin C start g
all_within C start g end ends before i j h = before j (omega (arith, h.pair.ends)) i h

-- The search over the groups

start_of-le : (plan : Plan) (m n : ℕ) → m ≤ n → start_of plan m ≤ start_of plan n
start_of-le plan zero n le = omega arith
start_of-le [] (suc m) n le = omega arith
start_of-le (g ∷ rest) (suc m) zero le = absurd (omega arith)
start_of-le (g ∷ rest) (suc m) (suc n) le =
    let later : start_of rest m ≤ start_of rest n = start_of-le rest m n (omega arith) in
    omega (arith, sum_by-cons length g (take m rest), sum_by-cons length g (take n rest))

start_of-after : (plan : Plan) (m n : ℕ) (g : Group) → slice_get plan m ≡ Some g → m < n → start_of plan m + length g ≤ start_of plan n
start_of-after plan m n g e lt =
    let next : start_of plan (m + 1) ≡ start_of plan m + length g = start_of-next plan m g e in
    let later : start_of plan (m + 1) ≤ start_of plan n = start_of-le plan (m + 1) n (omega arith) in
    omega arith

-- the first pair of the first group that has one is the first of the plan
pub first_of_plan : (C : ℕ → ℕ → Type 0) (plan : Plan) (m : ℕ) (g : Group) (i j : ℕ) → slice_get plan m ≡ Some g →
    ((n : ℕ) (other : Group) → n < m → slice_get plan n ≡ Some other → IsFencedWithin C (start_of plan n) other) →
    IsFirstUnfencedWithin C (start_of plan m) g i j → IsFirstUnfenced C plan i j
first_of_plan C plan m g i j e before first = record {
  stands = record { number = m; group = g; is_group = e; within = first.stands };
  least = λ x y h.
      elim (place x y h) [
        | inl here ↦ first.least x y here
        | inr late ↦ omega (arith, first.stands.pair.ends, late)
      ];
  greatest = λ x h.
      elim (place x j h) [
        | inl here ↦ first.greatest x here
        | inr late ↦ absurd (omega (arith, first.stands.pair.ends, late))
      ];
}
  where
    place : (x y : ℕ) → IsUnfenced C plan x y → IsUnfencedWithin C (start_of plan m) g x y ⊎ (start_of plan m + length g ≤ y)
    place x y h =
        elim (cases_lt h.number m) [
          | inl early ↦ absurd (before h.number h.group early h.is_group x y h.within)
          | inr from ↦ elim (cases_eq h.number m) [
            | inl same ↦
                let there : slice_get plan m ≡ Some h.group = subst (λ (z : ℕ). slice_get plan z ≡ Some h.group) same h.is_group in
                let is : h.group ≡ g = same_Some h.group g (sym there ∙ e) in
                let moved : IsUnfencedWithin C (start_of plan m) h.group x y = subst (λ (z : ℕ). IsUnfencedWithin C (start_of plan z) h.group x y) same h.within in
                inl (subst (λ (z : Group). IsUnfencedWithin C (start_of plan m) z x y) is moved)
            | inr other ↦
                let after : start_of plan m + length g ≤ start_of plan h.number = start_of-after plan m h.number g e (omega arith) in
                let starts : start_of plan h.number ≤ x = h.within.pair.starts in
                let ordered : x < y = h.within.pair.ordered in
                inr (omega arith)
          ]
        ]

pub all_of_plan : (C : ℕ → ℕ → Type 0) (plan : Plan) (count : ℕ) → length plan ≤ count →
    ((n : ℕ) (g : Group) → n < count → slice_get plan n ≡ Some g → IsFencedWithin C (start_of plan n) g) → IsFencedThroughout C plan
all_of_plan C plan count all fenced i j h =
    let within : h.number < length plan = slice_get_within plan h.number h.group h.is_group in
    fenced h.number h.group (omega arith) h.is_group i j h.within

-- The answer

pub legal_from : (C : ℕ → ℕ → Type 0) (greatest_batch n : ℕ) (plan : Plan) → piece_count plan ≡ n → HasGroupShapes greatest_batch plan →
    IsFencedThroughout C plan → IsLegal C greatest_batch n plan
legal_from C greatest_batch n plan covers shapes fenced = record {
  covers = covers;
  groups = λ number g e.
      let shape : HasGroupShape greatest_batch g = shapes number g e in
      record {
        size = shape.size;
        begins = shape.begins;
        separates = separates_from C (start_of plan number) g
            (λ i j h. fenced i j (record { number = number; group = g; is_group = e; within = h }));
      };
}

-- no legal plan has a pair with no fence between
pub legal_fenced : (C : ℕ → ℕ → Type 0) (greatest_batch n : ℕ) (plan : Plan) → IsLegal C greatest_batch n plan → (i j : ℕ) → IsUnfenced C plan i j → ⊥
legal_fenced C greatest_batch n plan legal i j h =
    let group : IsLegalGroup C greatest_batch (start_of plan h.number) h.group = legal.groups h.number h.group h.is_group in
    let found = group.separates i j h.within.pair in
    h.within.unfenced found.0 found.1 found.2 found.3

pub legal_no_fault : (C : ℕ → ℕ → Type 0) (greatest_batch n : ℕ) (plan : Plan) (f : LegalFault) → IsLegal C greatest_batch n plan →
    IsFirstLegalFault C greatest_batch n plan f → ⊥
legal_no_fault C greatest_batch n plan Count legal h = h legal.covers
legal_no_fault C greatest_batch n plan (GroupSize number) legal h =
    let group : IsLegalGroup C greatest_batch (start_of plan number) h.1.group = legal.groups number h.1.group h.1.is_group in
    h.1.wrong group.size
legal_no_fault C greatest_batch n plan (FirstFence number) legal h =
    let group : IsLegalGroup C greatest_batch (start_of plan number) h.1.group = legal.groups number h.1.group h.1.is_group in
    h.1.wrong group.begins
legal_no_fault C greatest_batch n plan (Unfenced i j) legal h = legal_fenced C greatest_batch n plan legal i j h.2.stands

same_group : (plan : Plan) (m n : ℕ) (g h : Group) → m ≡ n → slice_get plan m ≡ Some g → slice_get plan n ≡ Some h → g ≡ h
same_group plan m n g h e p q = same_Some g h (sym p ∙ ap (λ (z : ℕ). slice_get plan z) e ∙ q)

-- no group is the first of another shape in both ways
one_shape_fault : (greatest_batch : ℕ) (plan : Plan) (a b : ℕ) → IsFirstSizeFault greatest_batch plan a → IsFirstFenceFault greatest_batch plan b → ⊥
one_shape_fault greatest_batch plan a b p q =
    elim (cases_lt a b) [
      | inl less ↦ p.wrong (q.before a p.group less p.is_group).size
      | inr from ↦ elim (cases_lt b a) [
        | inl more ↦ q.wrong (p.before b q.group more q.is_group).begins
        | inr at_most ↦
            let same : b ≡ a = omega arith in
            let is : q.group ≡ p.group = same_group plan b a q.group p.group same q.is_group p.is_group in
            p.wrong (subst (λ (z : Group). HasGroupSize greatest_batch z) is q.size)
      ]
    ]

-- there is one first fault at most
pub one_fault : (C : ℕ → ℕ → Type 0) (greatest_batch n : ℕ) (plan : Plan) (f g : LegalFault) → IsFirstLegalFault C greatest_batch n plan f →
    IsFirstLegalFault C greatest_batch n plan g → f ≡ g
one_fault C greatest_batch n plan Count Count p q = refl
one_fault C greatest_batch n plan Count (GroupSize b) p q = absurd (p q.0)
one_fault C greatest_batch n plan Count (FirstFence b) p q = absurd (p q.0)
one_fault C greatest_batch n plan Count (Unfenced x y) p q = absurd (p q.0)
one_fault C greatest_batch n plan (GroupSize a) Count p q = absurd (q p.0)
one_fault C greatest_batch n plan (GroupSize a) (GroupSize b) p q =
    elim (cases_lt a b) [
      | inl less ↦ absurd (p.1.wrong (q.1.before a p.1.group less p.1.is_group).size)
      | inr from ↦ elim (cases_lt b a) [
        | inl more ↦ absurd (q.1.wrong (p.1.before b q.1.group more q.1.is_group).size)
        | inr at_most ↦ let same : a ≡ b = omega arith in ap GroupSize same
      ]
    ]
one_fault C greatest_batch n plan (GroupSize a) (FirstFence b) p q = absurd (one_shape_fault greatest_batch plan a b p.1 q.1)
one_fault C greatest_batch n plan (GroupSize a) (Unfenced x y) p q = absurd (p.1.wrong (q.1 a p.1.group p.1.is_group).size)
one_fault C greatest_batch n plan (FirstFence a) Count p q = absurd (q p.0)
one_fault C greatest_batch n plan (FirstFence a) (GroupSize b) p q = absurd (one_shape_fault greatest_batch plan b a q.1 p.1)
one_fault C greatest_batch n plan (FirstFence a) (FirstFence b) p q =
    elim (cases_lt a b) [
      | inl less ↦ absurd (p.1.wrong (q.1.before a p.1.group less p.1.is_group).begins)
      | inr from ↦ elim (cases_lt b a) [
        | inl more ↦ absurd (q.1.wrong (p.1.before b q.1.group more q.1.is_group).begins)
        | inr at_most ↦ let same : a ≡ b = omega arith in ap FirstFence same
      ]
    ]
one_fault C greatest_batch n plan (FirstFence a) (Unfenced x y) p q = absurd (p.1.wrong (q.1 a p.1.group p.1.is_group).begins)
one_fault C greatest_batch n plan (Unfenced i j) Count p q = absurd (q p.0)
one_fault C greatest_batch n plan (Unfenced i j) (GroupSize b) p q = absurd (q.1.wrong (p.1 b q.1.group q.1.is_group).size)
one_fault C greatest_batch n plan (Unfenced i j) (FirstFence b) p q = absurd (q.1.wrong (p.1 b q.1.group q.1.is_group).begins)
one_fault C greatest_batch n plan (Unfenced i j) (Unfenced x y) p q =
    let up : j ≤ y = p.2.least x y q.2.stands in
    let down : y ≤ j = q.2.least i j p.2.stands in
    let second : j ≡ y = omega arith in
    let low : x ≤ i = p.2.greatest x (subst (λ (z : ℕ). IsUnfenced C plan x z) (sym second) q.2.stands) in
    let high : i ≤ x = q.2.greatest i (subst (λ (z : ℕ). IsUnfenced C plan i z) second p.2.stands) in
    let first : i ≡ x = omega arith in
    ap (λ (z : ℕ). Unfenced z j) first ∙ ap (λ (z : ℕ). Unfenced x z) second

-- what an answer says of each fault

pub legal_answer : (C : ℕ → ℕ → Type 0) (greatest_batch n : ℕ) (plan : Plan) → IsLegal C greatest_batch n plan → (f : LegalFault) →
    (◌≡◌ {A = Result (Unit {0}) LegalFault} (Ok tt) (Err f) → IsFirstLegalFault C greatest_batch n plan f) × (IsFirstLegalFault C greatest_batch n plan f → ◌≡◌ {A = Result (Unit {0}) LegalFault} (Ok tt) (Err f))
legal_answer C greatest_batch n plan legal f = (λ e. absurd cc, λ h. absurd (legal_no_fault C greatest_batch n plan f legal h))

pub fault_answer : (C : ℕ → ℕ → Type 0) (greatest_batch n : ℕ) (plan : Plan) (g : LegalFault) → IsFirstLegalFault C greatest_batch n plan g → (f : LegalFault) →
    (◌≡◌ {A = Result (Unit {0}) LegalFault} (Err g) (Err f) → IsFirstLegalFault C greatest_batch n plan f) × (IsFirstLegalFault C greatest_batch n plan f → ◌≡◌ {A = Result (Unit {0}) LegalFault} (Err g) (Err f))
fault_answer C greatest_batch n plan g first f = (
  λ e. let same : g ≡ f = cc in subst (λ (z : LegalFault). IsFirstLegalFault C greatest_batch n plan z) same first,
  λ h. ap Err (one_fault C greatest_batch n plan g f first h),
)
