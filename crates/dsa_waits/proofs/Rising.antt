-- Lists of rising numbers, and what they contain.
use Rattle.std.proofs.Common.{◌≡◌, ℕ, zero, suc, ◌+◌, ◌-◌, ◌<◌, ◌≤◌, ◌⊎◌, inl, inr, Bool, true, List, [], ◌∷◌, ◌++◌, length, get_or, Some, None, sym, ap, subst, ◌∙◌, arith, filter}
use Rattle.std.specs.List.{Contains}
use Rattle.std.proofs.lemmas.Bool.{cases_eq, cases_lt, cond_both}
use Rattle.std.proofs.lemmas.List.{length_push, get_or_append_left, get_or_default, get_or_push}
use Rattle.std.proofs.lemmas.List.Elements.{Contains-append_left, Contains-get_or, Contains-push, Contains-push_cases}
use Rattle.std.proofs.lemmas.List.Kept.{AllPairs-filter}
use Rattle.dsa_conflicts.specs.Access.{IsGreatest}
use Rattle.dsa_waits.specs.Steps.{AreBelow, IsRising, WithRange}

-- ---- what a filter keeps

contains_cases : (y : ℕ) (ys : List ℕ) (x : ℕ) → Contains (y ∷ ys) x → (y ≡ x) ⊎ Contains ys x
contains_cases y ys x (zero, lt, is) = inl is
contains_cases y ys x (suc k, lt, is) = inr (k, omega (arith, lt), is)

contains_later : (y : ℕ) (ys : List ℕ) (x : ℕ) → Contains ys x → Contains (y ∷ ys) x
contains_later y ys x (k, lt, is) = (suc k, omega (arith, lt), is)

contains_first : (y : ℕ) (ys : List ℕ) (x : ℕ) → y ≡ x → Contains (y ∷ ys) x
contains_first y ys x is = (0, omega arith, is)

pub filter_only : (p : ℕ → Bool) (xs : List ℕ) (x : ℕ) → Contains (filter p xs) x → Contains xs x × (p x ≡ true)
filter_only p [] x h = absurd (omega (arith, h.1))
filter_only p (y ∷ ys) x h =
    cond_both (p y) (y ∷ filter p ys) (filter p ys) (λ (zs : List ℕ). Contains zs x → Contains (y ∷ ys) x × (p x ≡ true))
    (λ yes there.
    elim (contains_cases y (filter p ys) x there) [
      | inl is ↦ (contains_first y ys x is, subst (λ (z : ℕ). p z ≡ true) is yes)
      | inr later ↦ let rest = filter_only p ys x later in (contains_later y ys x rest.0, rest.1)
    ])
    (λ no there. let rest = filter_only p ys x there in (contains_later y ys x rest.0, rest.1))
    h

pub filter_keeps : (p : ℕ → Bool) (xs : List ℕ) (x : ℕ) → Contains xs x → p x ≡ true → Contains (filter p xs) x
filter_keeps p [] x h is = absurd (omega (arith, h.1))
filter_keeps p (y ∷ ys) x h is =
    cond_both (p y) (y ∷ filter p ys) (filter p ys) (λ (zs : List ℕ). Contains zs x)
    (λ yes.
    elim (contains_cases y ys x h) [
      | inl same ↦ contains_first y (filter p ys) x same
      | inr later ↦ contains_later y (filter p ys) x (filter_keeps p ys x later is)
    ])
    (λ no.
    elim (contains_cases y ys x h) [
      | inl same ↦ let yes : p y ≡ true = subst (λ (z : ℕ). p z ≡ true) (sym same) is in absurd cc
      | inr later ↦ filter_keeps p ys x later is
    ])

pub rising_filter : (p : ℕ → Bool) (xs : List ℕ) → IsRising xs → IsRising (filter p xs)
rising_filter p xs up = AllPairs-filter (λ x y. x < y) p xs up

-- ---- one more

pub rising_push : (xs : List ℕ) (y : ℕ) → IsRising xs → AreBelow y xs → IsRising (xs ++ y ∷ [])
rising_push xs y up below i j d lt within =
    let long = length_push xs y in
    elim (cases_lt j (length xs)) [
      | inl inside ↦ rw (get_or_append_left xs (y ∷ []) d i (omega arith), get_or_append_left xs (y ∷ []) d j inside) (up i j d lt inside)
      | inr end ↦
          rw (get_or_append_left xs (y ∷ []) d i (omega arith), get_or_push xs y d j (omega arith))
          (below (get_or xs i d) (Contains-get_or xs i d (omega arith)))
    ]

pub below_push : (n : ℕ) (xs : List ℕ) → AreBelow n xs → AreBelow (n + 1) (xs ++ n ∷ [])
below_push n xs below x there =
    elim (Contains-push_cases xs n x there) [
      | inl old ↦ omega (arith, below x old)
      | inr is ↦ omega (arith, is)
    ]

pub range_none : (xs : List ℕ) (from : ℕ) → IsRising xs → WithRange xs from from xs
range_none xs from up = record { rising = up; kept = λ x h. h; more = λ x le lt. absurd (omega arith); only = λ x h. inl h }

pub range_push : (xs ys : List ℕ) (from n : ℕ) → from ≤ n → WithRange xs from n ys → AreBelow n ys → WithRange xs from (n + 1) (ys ++ n ∷ [])
range_push xs ys from n begun range below =
    record {
      rising = rising_push ys n range.rising below;
      kept = λ x h. Contains-append_left ys (n ∷ []) x (range.kept x h);
      more = λ x le lt.
          elim (cases_lt x n) [
            | inl before ↦ Contains-append_left ys (n ∷ []) x (range.more x le before)
            | inr end ↦ subst (λ (z : ℕ). Contains (ys ++ n ∷ []) z) (omega arith) (Contains-push ys n)
          ];
      only = λ x h.
          elim (Contains-push_cases ys n x h) [
            | inl old ↦
                elim (range.only x old) [
                  | inl kept ↦ inl kept
                  | inr between ↦ inr (between.0, omega (arith, between.1))
                ]
            | inr is ↦ inr (omega (arith, is), omega (arith, is))
          ];
    }

-- ---- the last of them

pub below_at : (n : ℕ) (xs : List ℕ) (i d : ℕ) → AreBelow n xs → i < length xs → get_or xs i d < n
below_at n xs i d below lt = below (get_or xs i d) (Contains-get_or xs i d lt)

pub is_last : (C : ℕ → Type 0) (xs : List ℕ) (b d : ℕ) → IsRising xs → b < length xs → C (get_or xs b d)
    → ((x : ℕ) → b < x → x < length xs → ¬ C (get_or xs x d)) → IsGreatest (λ a. Contains xs a × C a) (Some (get_or xs b d))
is_last C xs b d up lt here none = (
  (Contains-get_or xs b d lt, here),
  λ other (there, conflict).
      let is : get_or xs there.0 d ≡ other = get_or_default xs there.0 d other there.1 ∙ there.2 in
      elim (cases_lt b there.0) [
        | inl later ↦ absurd (none there.0 later there.1 (subst C (sym is) conflict))
        | inr le ↦
            elim (cases_eq there.0 b) [
              | inl same ↦ omega (arith, is, ap (λ (k : ℕ). get_or xs k d) same)
              | inr unlike ↦ omega (arith, is, up there.0 b d (omega arith) lt)
            ]
      ],
)

pub none_of : (C : ℕ → Type 0) (xs : List ℕ) (d : ℕ) → ((x : ℕ) → x < length xs → ¬ C (get_or xs x d)) → IsGreatest (λ a. Contains xs a × C a) None
none_of C xs d none other (there, conflict) =
    let is : get_or xs there.0 d ≡ other = get_or_default xs there.0 d other there.1 ∙ there.2 in
    none there.0 there.1 (subst C (sym is) conflict)

-- one place further to the front
pub apart_more : (P : ℕ → Type 0) (i n : ℕ) → ((x : ℕ) → i ≤ x → x < n → ¬ P x) → ¬ P (i - 1) → (x : ℕ) → i - 1 ≤ x → x < n → ¬ P x
apart_more P i n apart here x le lt =
    elim (cases_eq x (i - 1)) [
      | inl same ↦ subst (λ (z : ℕ). ¬ P z) (sym same) here
      | inr unlike ↦ apart x (omega arith) lt
    ]
