-- What the words of a tracker show.
use Rattle.std.proofs.Common.{◌≡◌, ◌≢◌, ◌↔◌, ◌==◌, ℕ, zero, suc, ◌+◌, ◌<◌, ◌⊎◌, inl, inr, List, ◌∷◌, Option, Some, None, if◌then◌else◌, length, map, replicate, set, get_or, slice_get, slice_set, refl, sym, ap, ◌∙◌, subst, arith}
use Rattle.std.specs.Int.{bit_at}
use Rattle.std.specs.List.{range_with_len}
use Rattle.std.proofs.lemmas.Bool.{cases_eq}
use Rattle.std.proofs.lemmas.List.{length-set, get_or-set_same, get_or-set_other, same_lists}
use Rattle.std.proofs.lemmas.List.FromFn.{length-map-range_with_len, get_or-map-range_with_len}
use Rattle.std.proofs.lemmas.Nat.Bits.{bit_at-lt}
use Rattle.std.proofs.lemmas.Option.{same_Some, slice_get_within, slice_get-get_or}
use Rattle.dsa_tracker.specs.declared.board.Board.{Board}
use Rattle.dsa_tracker.specs.declared.slots.Slots.{Slots}
use Rattle.dsa_tracker.specs.Sets.{Has}
use Rattle.dsa_tracker.specs.State.{all_shown, kept_at, shown, waits_of}
use Rattle.dsa_tracker.specs.Table.{HasOne, IsFree, Outstanding}
use Rattle.dsa_tracker.proofs.Noting.{has}

pub waits_set_here : (waits : List ℕ) (s : ℕ) (w : Slots) → s < length waits → waits_of (set waits s w.0) s ≡ w
waits_set_here waits s w lt = λ i. record { 0 = get_or-set_same waits s w.0 0 lt i }

pub waits_set_other : (waits : List ℕ) (s k v : ℕ) → k ≢ s → waits_of (set waits s v) k ≡ waits_of waits k
waits_set_other waits s k v apart = λ i. record { 0 = get_or-set_other waits s k v 0 apart i }

shown_one : {X : Type 0} (n : ℕ) (x : X) → 0 < n → n < 2 → (if n == 1 then Some x else None) ≡ Some x
shown_one zero x some few = absurd (omega (arith, some))
shown_one (suc zero) x some few = refl
shown_one (suc (suc n)) x some few = absurd (omega (arith, few))

shown_none : {X : Type 0} (n : ℕ) (x : X) → (0 < n → ⊥) → n < 2 → (if n == 1 then Some x else None) ≡ None
shown_none zero x none few = refl
shown_none (suc n) x none few = absurd (none (omega arith))

module _ (width : ℕ) (board : Board) (waits stores : List ℕ) where
  pub shown_held : (s : ℕ) → Has board.outstanding s → shown width board waits stores s ≡ Some (kept_at width waits stores s)
  shown_held s h = shown_one (bit_at board.outstanding.0 s) (kept_at width waits stores s) h (bit_at-lt board.outstanding.0 s)

  pub shown_free : (s : ℕ) → (Has board.outstanding s → ⊥) → shown width board waits stores s ≡ None
  shown_free s h = shown_none (bit_at board.outstanding.0 s) (kept_at width waits stores s) h (bit_at-lt board.outstanding.0 s)

  pub count : length (all_shown width board waits stores) ≡ length waits
  count = length-map-range_with_len (shown width board waits stores) 0 (length waits)

  at : (s : ℕ) → s < length waits → slice_get (all_shown width board waits stores) s ≡ Some (shown width board waits stores s)
  at s lt =
      slice_get-get_or (all_shown width board waits stores) s None (omega (arith, lt, count))
      ∙ ap {B = Option (Option Outstanding)} (λ x. Some x) (get_or-map-range_with_len (shown width board waits stores) 0 (length waits) s s None lt (omega arith))

  module _ (within : (s : ℕ) → Has board.outstanding s → s < length waits) where
    pub held_is : (s : ℕ) → Has board.outstanding s → slice_get (all_shown width board waits stores) s ≡ Some (Some (kept_at width waits stores s))
    held_is s h = at s (within s h) ∙ ap {B = Option (Option Outstanding)} (λ x. Some x) (shown_held s h)

    pub free_is : (s : ℕ) → s < length waits → (Has board.outstanding s → ⊥) → IsFree (all_shown width board waits stores) s
    free_is s lt h = at s lt ∙ ap {B = Option (Option Outstanding)} (λ x. Some x) (shown_free s h)

    pub is_held : (s : ℕ) (o : Outstanding) → slice_get (all_shown width board waits stores) s ≡ Some (Some o) → Has board.outstanding s × (o ≡ kept_at width waits stores s)
    is_held s o is =
        let lt = slice_get_within (all_shown width board waits stores) s (Some o) is in
        elim (has board.outstanding s) [
          | inl h ↦ (h, same_Some o (kept_at width waits stores s) (same_Some (Some o) (Some (kept_at width waits stores s)) (sym is ∙ held_is s h)))
          | inr free ↦ let wrong : None ≡ Some o = same_Some None (Some o) (sym (free_is s (omega (arith, lt, count)) free) ∙ is) in cc
        ]

    pub one_at : (s : ℕ) (P : Outstanding → Type 0) → HasOne (all_shown width board waits stores) s P ↔ (Has board.outstanding s × P (kept_at width waits stores s))
    one_at s P = (
      λ h. let found = is_held s h.0 h.1 in (found.0, subst P found.1 h.2),
      λ h. (kept_at width waits stores s, held_is s h.0, h.1),
    )

    pub is_free : (s : ℕ) → IsFree (all_shown width board waits stores) s → (s < length waits) × (Has board.outstanding s → ⊥)
    is_free s is =
        let lt = slice_get_within (all_shown width board waits stores) s None is in
        (omega (arith, lt, count), λ h. let wrong : None ≡ Some (kept_at width waits stores s) = same_Some None (Some (kept_at width waits stores s)) (sym is ∙ held_is s h) in cc)

-- two slots that show the same
pub same_shown :
    (width : ℕ) (board new : Board) (waits waits' stores stores' : List ℕ) (s : ℕ) → Has new.outstanding s ↔ Has board.outstanding s →
    (Has board.outstanding s → kept_at width waits' stores' s ≡ kept_at width waits stores s) → shown width new waits' stores' s ≡ shown width board waits stores s
same_shown width board new waits waits' stores stores' s same kept =
    elim (has board.outstanding s) [
      | inl h ↦ shown_held width new waits' stores' s (same.1 h) ∙ ap {B = Option Outstanding} (λ x. Some x) (kept h) ∙ sym (shown_held width board waits stores s h)
      | inr free ↦ shown_free width new waits' stores' s (λ h. free (same.0 h)) ∙ sym (shown_free width board waits stores s free)
    ]

-- stores that differ for free slots alone show the same
pub same_all :
    (width : ℕ) (board : Board) (waits stores stores' : List ℕ) → ((s : ℕ) → Has board.outstanding s → kept_at width waits stores' s ≡ kept_at width waits stores s) →
    all_shown width board waits stores' ≡ all_shown width board waits stores
same_all width board waits stores stores' kept =
    same_lists (all_shown width board waits stores') (all_shown width board waits stores) (count width board waits stores' ∙ sym (count width board waits stores))
    (λ k d lt.
    let low : k < length waits = omega (arith, lt, count width board waits stores') in
    get_or-map-range_with_len (shown width board waits stores') 0 (length waits) k k d low (omega arith)
    ∙ same_shown width board board waits waits stores stores' k (λ h. h, λ h. h) (kept k)
    ∙ sym (get_or-map-range_with_len (shown width board waits stores) 0 (length waits) k k d low (omega arith)))

-- one slot more
pub one_more :
    (width : ℕ) (board new : Board) (waits waits' stores : List ℕ) (slot : ℕ) → slot < length waits → length waits' ≡ length waits →
    ((s : ℕ) → Has new.outstanding s ↔ (Has board.outstanding s ⊎ (s ≡ slot))) → ((s : ℕ) → s ≢ slot → waits_of waits' s ≡ waits_of waits s) →
    all_shown width new waits' stores ≡ slice_set (all_shown width board waits stores) slot (Some (kept_at width waits' stores slot))
one_more width board new waits waits' stores slot inside len taken others =
    same_lists (all_shown width new waits' stores) (set (all_shown width board waits stores) slot (Some (kept_at width waits' stores slot)))
    (count width new waits' stores ∙ len ∙ sym (length-set (all_shown width board waits stores) slot (Some (kept_at width waits' stores slot)) ∙ count width board waits stores))
    (λ k d lt.
    let low : k < length waits' = omega (arith, lt, count width new waits' stores) in
    get_or-map-range_with_len (shown width new waits' stores) 0 (length waits') k k d low (omega arith)
    ∙ elim (cases_eq k slot) [
      | inl same ↦
          shown_held width new waits' stores k ((taken k).1 (inr same))
          ∙ ap {B = Option Outstanding} (λ n. Some (kept_at width waits' stores n)) same
          ∙ sym (ap (λ (n : ℕ). get_or (set (all_shown width board waits stores) slot (Some (kept_at width waits' stores slot))) n d) same
          ∙ get_or-set_same (all_shown width board waits stores) slot (Some (kept_at width waits' stores slot)) d (omega (arith, inside, count width board waits stores)))
      | inr apart ↦
          same_shown width board new waits waits' stores stores k (λ h. elim ((taken k).0 h) [ inl was ↦ was | inr same ↦ absurd (apart same) ], λ h. (taken k).1 (inl h))
          (λ h. λ i. record { reads = (kept_at width waits stores k).reads; writes = (kept_at width waits stores k).writes; waits = others k apart i })
          ∙ sym (get_or-set_other (all_shown width board waits stores) slot k (Some (kept_at width waits' stores slot)) d apart
          ∙ get_or-map-range_with_len (shown width board waits stores) 0 (length waits) k k d (omega (arith, low, len)) (omega arith))
    ])

-- without outstanding submissions all slots are free
none_in : (width : ℕ) (board : Board) (waits stores : List ℕ) (from m : ℕ) → ((s : ℕ) → Has board.outstanding s → ⊥) → map (shown width board waits stores) (range_with_len from m) ≡ replicate {A = Option Outstanding} m None
none_in width board waits stores from zero none = refl
none_in width board waits stores from (suc m) none = λ i. shown_free width board waits stores from (none from) i ∷ none_in width board waits stores (from + 1) m none i

pub none_shown : (width : ℕ) (board : Board) (waits stores : List ℕ) (n : ℕ) → length waits ≡ n → ((s : ℕ) → Has board.outstanding s → ⊥) → all_shown width board waits stores ≡ replicate n None
none_shown width board waits stores n len none = ap (λ (m : ℕ). map (shown width board waits stores) (range_with_len 0 m)) len ∙ none_in width board waits stores 0 n none
