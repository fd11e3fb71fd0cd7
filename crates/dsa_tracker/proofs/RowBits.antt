-- Marks that are set, kept and taken away.
use Rattle.std.proofs.Common.{◌≡◌, ◌≢◌, ℕ, ◌-◌, ◌*◌, ◌%◌, ◌^◌, ◌<◌, List, [], ◌∷◌, suc, Some, length, slice_get, get_or, set, sym, ap, subst, ◌∙◌, arith, inl, inr, refl, Bool, true, false}
use Rattle.std.specs.Prelude.{bit_or, bit_and}
use Rattle.std.specs.Int.{bit_at, w64}
use Rattle.std.proofs.lemmas.Bool.{cases_eq}
use Rattle.std.proofs.lemmas.Nat.Bits.{bit_at_set_same, bit_at_set_other, bit_at_clear_other, bit_at_and, bit_at_or, bit_at_ones}
use Rattle.std.proofs.lemmas.List.{get_or-set_same, get_or-set_other}
use Rattle.dsa_descriptor.specs.declared.span.Span.{Span}
use Rattle.dsa_descriptor.specs.Spans.{InSome, InSpan}
use Rattle.dsa_tracker.specs.declared.grid.Grid.{Grid}
use Rattle.dsa_tracker.specs.Rows.{Holds, IsNoted, IsSought}

-- a change of one row that keeps a slot's bit keeps it in all rows
kept_by : (rows : List ℕ) (row new : ℕ) → row < length rows → (k s : ℕ) → bit_at new s ≡ bit_at (get_or rows row 0) s → Holds rows k s → Holds (set rows row new) k s
kept_by rows row new inside k s same was =
    elim (cases_eq k row) [
      | inl here ↦
          let e : get_or (set rows row new) k 0 ≡ new = ap (λ (n : ℕ). get_or (set rows row new) n 0) here ∙ get_or-set_same rows row new 0 inside in
          let was' : 0 < bit_at (get_or rows row 0) s = subst (λ (n : ℕ). 0 < bit_at (get_or rows n 0) s) here was in
          subst (λ (n : ℕ). 0 < bit_at n s) (sym e) (subst (λ (n : ℕ). 0 < n) (sym same) was')
      | inr far ↦
          let e : get_or (set rows row new) k 0 ≡ get_or rows k 0 = get_or-set_other rows row k new 0 far in
          subst (λ (n : ℕ). 0 < bit_at n s) (sym e) was
    ]

module _ (rows : List ℕ) (row slot : ℕ) (inside : row < length rows) (few : slot < 64) where
  abbrev with : ℕ
  with = bit_or (get_or rows row 0) (1 * 2 ^ slot % 18446744073709551616)

  pub bit_set : Holds (set rows row with) row slot
  bit_set =
      let e : get_or (set rows row with) row 0 ≡ with = get_or-set_same rows row with 0 inside in
      let one : bit_at with slot ≡ 1 = bit_at_set_same w64 (get_or rows row 0) slot few in
      subst (λ (n : ℕ). 0 < bit_at n slot) (sym e) (subst (λ (n : ℕ). 0 < n) (sym one) (omega arith))

  pub bits_kept : (k s : ℕ) → s < 64 → Holds rows k s → Holds (set rows row with) k s
  bits_kept k s low was =
      elim (cases_eq s slot) [
        | inl same ↦ elim (cases_eq k row) [
          | inl here ↦ subst (λ n. Holds (set rows row with) k n) (sym same) (subst (λ n. Holds (set rows row with) n slot) (sym here) bit_set)
          | inr far ↦
              let e : get_or (set rows row with) k 0 ≡ get_or rows k 0 = get_or-set_other rows row k with 0 far in
              subst (λ (n : ℕ). 0 < bit_at n s) (sym e) was
        ]
        | inr apart ↦ kept_by rows row with inside k s (bit_at_set_other w64 (get_or rows row 0) slot few s apart) was
      ]

  abbrev without : ℕ
  without = bit_and (get_or rows row 0) (18446744073709551615 - 1 * 2 ^ slot % 18446744073709551616)

  pub others_kept : (k s : ℕ) → s < 64 → s ≢ slot → Holds rows k s → Holds (set rows row without) k s
  others_kept k s low apart was = kept_by rows row without inside k s (bit_at_clear_other w64 (get_or rows row 0) slot few s low apart) was

pub in_both : (a b s : ℕ) → 0 < bit_at a s → 0 < bit_at b s → 0 < bit_at (bit_and a b) s
in_both a b s h k = let e = bit_at_and a b s in subst (λ (n : ℕ). 0 < n) (sym e) (omega (arith, h, k))

pub in_first : (a b s : ℕ) → 0 < bit_at a s → 0 < bit_at (bit_or a b) s
in_first a b s h = let e = bit_at_or a b s in subst (λ (n : ℕ). 0 < n) (sym e) (omega (arith, h))

pub in_second : (a b s : ℕ) → 0 < bit_at b s → 0 < bit_at (bit_or a b) s
in_second a b s h = let e = bit_at_or a b s in subst (λ (n : ℕ). 0 < n) (sym e) (omega (arith, h))

pub in_all : (s : ℕ) → s < 64 → 0 < bit_at 18446744073709551615 s
in_all s low = let e : bit_at (2 ^ 64 - 1) s ≡ 1 = bit_at_ones 64 s low in subst (λ (n : ℕ). 0 < n) (sym e) (omega arith)

-- an address in some span lies in that of an index
pub span_of : (spans : List Span) (a : ℕ) → InSome spans a → (j : ℕ) × (s : Span) × (slice_get spans j ≡ Some s) × InSpan s a
span_of [] a h = absurd h
span_of (s ∷ ss) a (inl here) = (0, s, refl, here)
span_of (s ∷ ss) a (inr later) = let rest = span_of ss a later in (suc rest.0, rest.1, rest.2, rest.3)

-- where a slot's bits stay, so do its marks
pub sought_still : (grid : Grid) (rows new : List ℕ) (is_written : Bool) (unit s : ℕ) → ((k : ℕ) → Holds rows k s → Holds new k s) → IsSought grid rows is_written unit s → IsSought grid new is_written unit s
sought_still grid rows new false unit s stays h = (stays _ h.0, stays _ h.1)
sought_still grid rows new true unit s stays h = (stays _ h.0, stays _ h.1)

pub noted_still : (grid : Grid) (rows new : List ℕ) (is_written : Bool) (unit s : ℕ) → ((k : ℕ) → Holds rows k s → Holds new k s) → IsNoted grid rows is_written unit s → IsNoted grid new is_written unit s
noted_still grid rows new false unit s stays h = (stays _ h.0, stays _ h.1)
noted_still grid rows new true unit s stays h = let one = h.0 in let two = h.1 in ((stays _ one.0, stays _ one.1), (stays _ two.0, stays _ two.1))
