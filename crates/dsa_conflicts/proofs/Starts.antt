-- First addresses of accesses in their order, each once.
use Rattle.std.proofs.Common.{◌≡◌, ℕ, ◌+◌, ◌-◌, ◌<◌, ◌≤◌, List, [], ◌∷◌, ◌++◌, length, get_or, sym, ap, subst, ◌∙◌, arith, inl, inr}
use Rattle.std.specs.Prelude.{Some, slice_get}
use Rattle.std.specs.List.{Contains}
use Rattle.std.specs.List.Sorted.{IsNonDecreasing, IsNonDecreasingBy}
use Rattle.std.proofs.lemmas.Bool.{cases_eq}
use Rattle.std.proofs.lemmas.Option.{same_Some, slice_get_within, get_or_from_slice_get}
use Rattle.std.proofs.lemmas.List.Elements.{Contains-append_left, Contains-get_or, Contains-push, Contains-push_cases}
use Rattle.std.proofs.lemmas.List.Sorted.{IsNonDecreasingBy-push}
use Rattle.dsa_descriptor.specs.declared.span.Span.{Span}
use Rattle.dsa_conflicts.specs.declared.access.Access.TheVariants.{Read, Write}
use Rattle.dsa_conflicts.specs.declared.touches.Touch.{Touch}
use Rattle.dsa_conflicts.specs.Ranks.{HasStarts, HoldsFirsts}
use Rattle.dsa_conflicts.specs.Touches.{HasTouches, touch}
use Rattle.dsa_conflicts.proofs.Touching.{at_contains}

-- the starts of the first accesses are in order, and none is past one to come
pub record AreStarts (touches : List Touch) (n : ℕ) (starts : List ℕ) : Type 0 where
  pub sorted : IsNonDecreasing starts
  pub held : HasStarts starts touches n
  pub upper : (x j : ℕ) (t : Touch) → Contains starts x → n ≤ j → slice_get touches j ≡ Some t → x ≤ t.span.first

pub starts_none : (touches : List Touch) → AreStarts touches 0 []
starts_none touches = record {
  sorted = λ i j d le lt. absurd (omega (arith, lt));
  held = λ k t lt at. absurd (omega (arith, lt));
  upper = λ x j t h le at. absurd (omega (arith, h.1));
}

module _ (touches : List Touch) (i : ℕ) (t : Touch) (at : slice_get touches i ≡ Some t) (starts : List ℕ) (h : AreStarts touches i starts) where
  -- one access more, whose start is there or is not
  held_more : (new : List ℕ) → ((x : ℕ) → Contains starts x → Contains new x) → Contains new t.span.first → HasStarts new touches (i + 1)
  held_more new kept here k u lt at_k =
      elim (cases_eq k i) [
        | inl same ↦
            let is : u ≡ t = same_Some u t (sym at_k ∙ (ap (slice_get touches) same ∙ at)) in
            subst (λ (y : Touch). Contains new y.span.first) (sym is) here
        | inr apart ↦ kept u.span.first (h.held k u (omega (arith, lt, apart)) at_k)
      ]

  pub starts_skip : Contains starts t.span.first → AreStarts touches (i + 1) starts
  starts_skip here = record {
    sorted = h.sorted;
    held = held_more starts (λ x c. c) here;
    upper = λ x j u c le at_j. h.upper x j u c (omega (arith, le)) at_j;
  }

  pub starts_push : IsNonDecreasingBy (λ (y : Touch). y.span.first) touches → AreStarts touches (i + 1) (starts ++ t.span.first ∷ [])
  starts_push sorted = record {
    sorted = IsNonDecreasingBy-push (λ x. x) starts t.span.first h.sorted (λ d some. h.upper (get_or starts (length starts - 1) d) i t (Contains-get_or starts (length starts - 1) d (omega (arith, some))) (omega arith) at);
    held = held_more (starts ++ t.span.first ∷ []) (λ x c. Contains-append_left starts (t.span.first ∷ []) x c) (Contains-push starts t.span.first);
    upper = λ x j u c le at_j. elim (Contains-push_cases starts t.span.first x c) [
      | inl before ↦ h.upper x j u before (omega (arith, le)) at_j
      | inr same ↦
          let up = sorted i j t (omega (arith, le)) (slice_get_within touches j u at_j) in
          let is_t = ap (λ (y : Touch). y.span.first) (get_or_from_slice_get touches i t t at) in
          let is_u = ap (λ (y : Touch). y.span.first) (get_or_from_slice_get touches j u t at_j) in
          omega (arith, up, is_t, is_u, same)
    ];
  }

-- so the first addresses of a piece's spans are among the starts of all
pub piece_has_firsts : {P : Type 0} (reads writes : P → List Span) (ps : List P) (touches : List Touch) (n : ℕ) (starts : List ℕ) → HasTouches reads writes touches ps n → HasStarts starts touches (length touches)
    → (i : ℕ) (p : P) → i < n → slice_get ps i ≡ Some p → HoldsFirsts starts (reads p) × HoldsFirsts starts (writes p)
piece_has_firsts reads writes ps touches n starts has held i d lt at = (
  λ k s at_k.
      let w = at_contains touches (touch i Read s) (has i Read s lt (d, at, (k, at_k))) in
      held w.0 (touch i Read s) (slice_get_within touches w.0 (touch i Read s) w.1) w.1,
  λ k s at_k.
      let w = at_contains touches (touch i Write s) (has i Write s lt (d, at, (k, at_k))) in
      held w.0 (touch i Write s) (slice_get_within touches w.0 (touch i Write s) w.1) w.1,
)
