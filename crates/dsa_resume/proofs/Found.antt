-- The first piece that has ended so, and the front of a list with barriers.
use Rattle.std.proofs.Common.{◌≡◌, ◌≢◌, inl, inr, ℕ, ◌+◌, ◌<◌, ◌≤◌, Bool, true, false, List, [], ◌∷◌, length, get_or, refl, sym, ap, ◌∙◌, subst, arith}
use Rattle.std.specs.Prelude.{Option, Some, slice_get, slice_index, unwrap_or}
use Rattle.std.proofs.lemmas.Bool.{cases_lt}
use Rattle.std.proofs.lemmas.Option.{get_or_from_slice_get, slice_get-get_or, slice_get_past, slice_get_within, unwrap_or-slice_get}
use Rattle.dsa_settings.specs.Barriers.{IsBarrier}
use Rattle.dsa_resume.specs.declared.status.Ended.{Ended}
use Rattle.dsa_resume.specs.Barriers.{HasEnded, Holds, IsFirstOpen, IsFirstPassed, IsFront, NonePassed}
use Rattle.dsa_resume.specs.Ended.{ends_of, has_begun}
use Rattle.dsa_resume.specs.GivenUp.{IsIdle}

-- ---- one piece

pub ended_here : (wanted : Ended → Bool) (ends : List Ended) (i : ℕ) (d : Ended) → i < length ends → true ≡ wanted (get_or ends i d) → HasEnded wanted ends i
ended_here wanted ends i d less is = (get_or ends i d, slice_get-get_or ends i d less, sym is)

pub not_here : (wanted : Ended → Bool) (ends : List Ended) (i : ℕ) (d : Ended) → false ≡ wanted (get_or ends i d) → HasEnded wanted ends i → ⊥
not_here wanted ends i d is (e, at, was) = let no : false ≡ true = is ∙ ap wanted (get_or_from_slice_get ends i e d at) ∙ was in absurd cc

-- ---- all pieces so far

pub none_more : (P : ℕ → Type 0) (i : ℕ) → ((k : ℕ) → k < i → P k → ⊥) → (P i → ⊥) → (k : ℕ) → k < i + 1 → P k → ⊥
none_more P i so_far here k less p = elim (cases_lt k i) [
  | inl before ↦ so_far k before p
  | inr after ↦ let same : k ≡ i = omega (arith, less, after) in here (subst P same p)
]

pub none_at_all : (wanted : Ended → Bool) (ends : List Ended) (i : ℕ) → length ends ≤ i → ((k : ℕ) → k < i → HasEnded wanted ends k → ⊥) → (k : ℕ) → HasEnded wanted ends k → ⊥
none_at_all wanted ends i end so_far k (e, at, is) = so_far k (omega (arith, slice_get_within ends k e at, end)) (e, at, is)

-- the one that is there is the least
pub least_here : (P : ℕ → Type 0) (i : ℕ) → ((k : ℕ) → k < i → P k → ⊥) → (x : ℕ) → P x → i ≤ x
least_here P i so_far x p = elim (cases_lt x i) [ inl before ↦ absurd (so_far x before p) | inr after ↦ after ]

-- ---- the front

in_marks : (bs : List Bool) (k : ℕ) → true ≡ get_or bs k false → k < length bs
in_marks bs k is = elim (cases_lt k (length bs)) [ inl less ↦ less | inr more ↦ absurd (let no : true ≡ false = is ∙ sym (unwrap_or-slice_get bs k false) ∙ ap (λ (o : Option Bool). unwrap_or o false) (slice_get_past bs k more) in cc) ]

pub marked : (bs : List Bool) (k : ℕ) → true ≡ get_or bs k false → IsBarrier bs k
marked bs k is = slice_get-get_or bs k false (in_marks bs k is) ∙ ap Some (sym is)

pub not_marked : (bs : List Bool) (k : ℕ) → false ≡ get_or bs k false → IsBarrier bs k → ⊥
not_marked bs k is barrier = let no : false ≡ true = is ∙ get_or_from_slice_get bs k true false barrier in absurd cc

module _ (barriers : List Bool) (ends : List Ended) (first : ℕ) (is_first : IsFirstOpen ends first) where
  -- a piece for which a barrier holds is the first that has not succeeded, or after it
  pub from_first : (i k : ℕ) → Holds barriers ends i k → first ≤ i
  from_first i k holds = elim (cases_lt i first) [ inl less ↦ absurd (is_first.none i less holds.is_open) | inr more ↦ more ]

  -- so no barrier holds up to the next one
  none_holds : (end : ℕ) → ((k : ℕ) → first < k → k < end → IsBarrier barriers k → ⊥) → (i k : ℕ) → k < end → Holds barriers ends i k → ⊥
  none_holds end none i k less holds = none k (omega (arith, from_first i k holds, holds.before)) less holds.barrier

  pub front_here : (end : ℕ) → first < end → end < length ends → IsBarrier barriers end → ((k : ℕ) → first < k → k < end → IsBarrier barriers k → ⊥) → IsFront barriers ends end
  front_here end less inside barrier none = record {
    within = omega (arith, inside);
    none = none_holds end none;
    holds = λ within. (first, record { barrier = barrier; before = less; is_open = is_first.here (omega (arith, less, inside)) });
  }

  pub front_last : ((k : ℕ) → first < k → k < length ends → IsBarrier barriers k → ⊥) → IsFront barriers ends (length ends)
  front_last none = record {
    within = omega arith;
    none = none_holds (length ends) none;
    holds = λ within. absurd (omega (arith, within));
  }

  module _ (front : ℕ) (is : IsFront barriers ends front) where
    -- a barrier that holds is at the front or after it
    at_front : (i k : ℕ) → Holds barriers ends i k → front ≤ k
    at_front i k holds = elim (cases_lt k front) [ inl less ↦ absurd (is.none i k less holds) | inr more ↦ more ]

    pub none_passed : ((j : ℕ) → front ≤ j → HasEnded has_begun ends j → ⊥) → NonePassed barriers ends
    none_passed none i j (k, holds, from, begun) = none j (omega (arith, at_front i k holds, from)) begun

    pub first_passed : (j : ℕ) → front ≤ j → HasEnded has_begun ends j → ((y : ℕ) → front ≤ y → HasEnded has_begun ends y → j ≤ y) → IsFirstPassed barriers ends first j
    first_passed j from (e, at, begun) least =
        let (i, holds) = is.holds (omega (arith, from, slice_get_within ends j e at)) in
        let earlier : first ≤ i = from_first i front holds in
        record {
          passed = (
            front,
            record {
              barrier = holds.barrier;
              before = omega (arith, earlier, holds.before);
              is_open = is_first.here (omega (arith, earlier, holds.before, from, slice_get_within ends j e at));
            },
            from,
            (e, at, begun),
          );
          least = λ x y (k, held, after, started). least y (omega (arith, at_front x k held, after)) started;
          first = λ x (k, held, after, started). from_first x k held;
        }

-- ---- pieces that are given up

module _ (completions : List (List ℕ)) (given_up : List ℕ) where
  pub idle_here : (i : ℕ) → i < length given_up → get_or given_up i 0 ≢ 0 → ((r : List ℕ) → slice_get completions i ≡ Some r → 3 ≤ slice_index r 0 → ⊥) → IsIdle completions given_up i
  idle_here i less some other = record {
    mark = get_or given_up i 0;
    marked = slice_get-get_or given_up i 0 less;
    some = some;
    other = λ r at. elim (cases_lt (slice_index r 0) 3) [ inl low ↦ low | inr high ↦ absurd (other r at high) ];
  }

  pub unmarked : (i : ℕ) → get_or given_up i 0 ≡ 0 → IsIdle completions given_up i → ⊥
  unmarked i none idle = idle.some (sym (get_or_from_slice_get given_up i idle.mark 0 idle.marked) ∙ none)

  pub failed : (i : ℕ) → (r : List ℕ) × (slice_get completions i ≡ Some r) × (3 ≤ slice_index r 0) → IsIdle completions given_up i → ⊥
  failed i (r, at, high) idle = absurd (omega (arith, idle.other r at, high))

  pub idle_within : (i : ℕ) → IsIdle completions given_up i → i < length given_up
  idle_within i idle = slice_get_within given_up i idle.mark idle.marked

-- ---- how many have ended

pub length-ends : (completions : List (List ℕ)) (given_up : List ℕ) → length (ends_of completions given_up) ≡ length completions
length-ends [] given_up = refl
length-ends (r ∷ rs) [] = omega (arith, length-ends rs [])
length-ends (r ∷ rs) (mark ∷ marks) = omega (arith, length-ends rs marks)
