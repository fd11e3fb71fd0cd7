-- Bits of words.
use Rattle.std.proofs.Common.{◌≡◌, ◌≢◌, ℕ, ◌+◌, ◌-◌, ◌*◌, ◌/◌, ◌%◌, ◌^◌, ◌<◌, ◌≤◌, ◌↔◌, ◌⊎◌, inl, inr, refl, sym, ap, ◌∙◌, subst, arith}
use Rattle.std.specs.Prelude.{bit_and, bit_or, max, min}
use Rattle.std.specs.Int.{bit_at, w64, trailing_zeros}
use Rattle.std.proofs.lemmas.Bool.{cases_eq, cases_lt}
use Rattle.std.proofs.lemmas.Nat.Bits.{bit_at_set_same, bit_at_set_other, bit_at_clear_same, bit_at_clear_other, bit_at_above, bit_at_and, bit_at_or, bit_at_not, bit_at_ones, bit_at-zero, bit_at-trailing_zeros, same_from_bits}
use Rattle.std.proofs.lemmas.Nat.{and_le_l, shr-shr}

-- a bit that is set
abbrev IsSet : ℕ → ℕ → Type 0
IsSet n i = 0 < bit_at n i

pub not_above : (n i : ℕ) → n < 2 ^ 64 → 64 ≤ i → IsSet n i → ⊥
not_above n i small above set = let e : bit_at n i ≡ 0 = bit_at_above n 64 i small above in omega (arith, e, set)

pub set_one : (n k : ℕ) → k < 64 → (i : ℕ) → IsSet (bit_or n (1 * 2 ^ k % 18446744073709551616)) i ↔ (IsSet n i ⊎ (i ≡ k))
set_one n k few i = (there, back)
  where
    there : IsSet (bit_or n (1 * 2 ^ k % 18446744073709551616)) i → IsSet n i ⊎ (i ≡ k)
    there h =
        elim (cases_eq i k) [
          | inl same ↦ inr same
          | inr apart ↦ inl (subst (λ (x : ℕ). 0 < x) (bit_at_set_other w64 n k few i apart) h)
        ]

    at_k : IsSet (bit_or n (1 * 2 ^ k % 18446744073709551616)) k
    at_k = subst (λ (x : ℕ). 0 < x) (sym (bit_at_set_same w64 n k few)) (omega arith)

    back : IsSet n i ⊎ (i ≡ k) → IsSet (bit_or n (1 * 2 ^ k % 18446744073709551616)) i
    back h =
        elim (cases_eq i k) [
          | inl same ↦ subst (λ x. IsSet (bit_or n (1 * 2 ^ k % 18446744073709551616)) x) (sym same) at_k
          | inr apart ↦
              elim h [
                | inl set ↦ subst (λ (x : ℕ). 0 < x) (sym (bit_at_set_other w64 n k few i apart)) set
                | inr same ↦ absurd (apart same)
              ]
        ]

pub clear_one : (n k : ℕ) → n < 2 ^ 64 → k < 64 → (i : ℕ) → IsSet (bit_and n (18446744073709551615 - 1 * 2 ^ k % 18446744073709551616)) i ↔ (IsSet n i × (i ≢ k))
clear_one n k small few i = (there, back)
  where
    mask : ℕ
    mask = 18446744073709551615 - 1 * 2 ^ k % 18446744073709551616

    only : IsSet (bit_and n (18446744073709551615 - 1 * 2 ^ k % 18446744073709551616)) i → IsSet n i
    only h = let e = bit_at_and n (18446744073709551615 - 1 * 2 ^ k % 18446744073709551616) i in omega (arith, e, h)

    there : IsSet (bit_and n (18446744073709551615 - 1 * 2 ^ k % 18446744073709551616)) i → IsSet n i × (i ≢ k)
    there h = (
      only h,
      λ same.
          let e : bit_at (bit_and n (18446744073709551615 - 1 * 2 ^ k % 18446744073709551616)) k ≡ 0 = bit_at_clear_same w64 n k few in
          let g : IsSet (bit_and n (18446744073709551615 - 1 * 2 ^ k % 18446744073709551616)) k = subst (λ x. IsSet (bit_and n (18446744073709551615 - 1 * 2 ^ k % 18446744073709551616)) x) same h in
          omega (arith, e, g),
    )

    back : IsSet n i × (i ≢ k) → IsSet (bit_and n (18446744073709551615 - 1 * 2 ^ k % 18446744073709551616)) i
    back h =
        elim (cases_lt i 64) [
          | inl low ↦ subst (λ (x : ℕ). 0 < x) (sym (bit_at_clear_other w64 n k few i low h.1)) h.0
          | inr high ↦ absurd (not_above n i small (omega (arith, high)) h.0)
        ]

pub none_set : (n : ℕ) → ((i : ℕ) → IsSet n i → ⊥) → n ≡ 0
none_set n none = same_from_bits n 0 (λ i. let e : bit_at 0 i ≡ 0 = bit_at-zero i in let no = none i in omega (arith, e, no))

pub zero_has_none : (n i : ℕ) → n ≡ 0 → IsSet n i → ⊥
zero_has_none n i zero h =
    let e : bit_at 0 i ≡ 0 = bit_at-zero i in
    let g : IsSet 0 i = subst (λ x. IsSet x i) zero h in
    omega (arith, e, g)

pub either_set : (n m i : ℕ) → IsSet (bit_or n m) i ↔ (IsSet n i ⊎ IsSet m i)
either_set n m i = (there, back)
  where
    both : bit_at (bit_or n m) i ≡ max (bit_at n i) (bit_at m i)
    both = bit_at_or n m i

    there : IsSet (bit_or n m) i → IsSet n i ⊎ IsSet m i
    there h =
        elim (cases_lt 0 (bit_at n i)) [
          | inl first ↦ inl first
          | inr none ↦ inr (omega (arith, both, h, none))
        ]

    back : IsSet n i ⊎ IsSet m i → IsSet (bit_or n m) i
    back (inl first) = omega (arith, both, first)
    back (inr second) = omega (arith, both, second)

pub both_set : (n m i : ℕ) → IsSet (bit_and n m) i ↔ (IsSet n i × IsSet m i)
both_set n m i = (λ h. (omega (arith, both, h), omega (arith, both, h)), λ h. let one = h.0 in let two = h.1 in omega (arith, both, one, two))
  where
    both : bit_at (bit_and n m) i ≡ min (bit_at n i) (bit_at m i)
    both = bit_at_and n m i

pub not_set : (m i : ℕ) → m < 2 ^ 64 → i < 64 → IsSet (18446744073709551615 - m) i ↔ (IsSet m i → ⊥)
not_set m i small low = (λ h set. omega (arith, turned, h, set), back)
  where
    turned : bit_at (18446744073709551615 - m) i ≡ 1 - bit_at m i
    turned = bit_at_not w64 m i small low

    back : (IsSet m i → ⊥) → IsSet (18446744073709551615 - m) i
    back h =
        elim (cases_lt 0 (bit_at m i)) [
          | inl set ↦ absurd (h set)
          | inr none ↦ omega (arith, turned, none)
        ]

pub minus_set : (n m i : ℕ) → n < 2 ^ 64 → m < 2 ^ 64 → IsSet (bit_and n (18446744073709551615 - m)) i ↔ (IsSet n i × (IsSet m i → ⊥))
minus_set n m i small small' = (there, back)
  where
    within : IsSet n i → i < 64
    within h =
        elim (cases_lt i 64) [
          | inl low ↦ low
          | inr high ↦ absurd (not_above n i small (omega (arith, high)) h)
        ]

    there : IsSet (bit_and n (18446744073709551615 - m)) i → IsSet n i × (IsSet m i → ⊥)
    there h = let parts = (both_set n (18446744073709551615 - m) i).0 h in (parts.0, (not_set m i small' (within parts.0)).0 parts.1)

    back : IsSet n i × (IsSet m i → ⊥) → IsSet (bit_and n (18446744073709551615 - m)) i
    back h = (both_set n (18446744073709551615 - m) i).1 (h.0, (not_set m i small' (within h.0)).1 h.1)

pub all_set : (n i : ℕ) → n ≡ 18446744073709551615 → i < 64 → IsSet n i
all_set n i is low = let e : bit_at (2 ^ 64 - 1) i ≡ 1 = bit_at_ones 64 i low in subst (λ x. IsSet x i) (sym is) (omega (arith, e))

-- the lowest bit that is set
pub lowest : (n : ℕ) → 0 < n → n < 2 ^ 64 → (trailing_zeros w64 n < 64) × IsSet n (trailing_zeros w64 n) × ((i : ℕ) → i < trailing_zeros w64 n → IsSet n i → ⊥)
lowest n some small =
    let found = bit_at-trailing_zeros w64 n some small in
    let is = found.1 in
    (found.0, omega (arith, is), λ i lt set. let e = found.2 i lt in omega (arith, e, set))

-- to clear a bit that is set lowers the word
pub lower : (n k : ℕ) → n < 2 ^ 64 → k < 64 → IsSet n k → bit_and n (18446744073709551615 - 1 * 2 ^ k % 18446744073709551616) < n
lower n k small few set =
    elim (cases_eq (bit_and n (18446744073709551615 - 1 * 2 ^ k % 18446744073709551616)) n) [
      | inl same ↦ absurd (((clear_one n k small few k).0 (subst (λ x. IsSet x k) (sym same) set)).1 refl)
      | inr apart ↦ let le = and_le_l n (18446744073709551615 - 1 * 2 ^ k % 18446744073709551616) in omega (arith, le, apart)
    ]

-- the bits of a word from one place on
shifted : (n k i : ℕ) → bit_at (n / 2 ^ k) i ≡ bit_at n (k + i)
shifted n k i = ap (λ (m : ℕ). m % 2) (shr-shr n k i)

pub none_from : (n k : ℕ) → ((i : ℕ) → IsSet (n / 2 ^ k) i → ⊥) → (i : ℕ) → IsSet n i → i < k
none_from n k none i h =
    elim (cases_lt i k) [
      | inl lt ↦ lt
      | inr ge ↦
          let back : k + (i - k) ≡ i = omega (arith, ge) in
          absurd (none (i - k) (subst (λ (b : ℕ). 0 < b) (sym (shifted n k (i - k) ∙ ap (λ (j : ℕ). bit_at n j) back)) h))
    ]

pub all_below : (n k : ℕ) → ((i : ℕ) → IsSet n i → i < k) → (i : ℕ) → IsSet (n / 2 ^ k) i → ⊥
all_below n k below i h = let lt = below (k + i) (subst (λ (b : ℕ). 0 < b) (shifted n k i) h) in omega (arith, lt)
