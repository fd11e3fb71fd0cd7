-- Bytes that are zero because the numbers that they make are.
use Rattle.std.proofs.Common.{◌≡◌, ℕ, zero, suc, ◌+◌, ◌-◌, ◌/◌, ◌^◌, ◌<◌, ◌≤◌, inl, inr, List, length, get_or, drop, sym, ap, ◌∙◌, arith}
use Rattle.std.specs.Prelude.{slice_range}
use Rattle.std.proofs.lemmas.Bool.{cases_lt}
use Rattle.std.proofs.lemmas.List.{get_or_default, get_or-drop, get_or-take, length-take, length-drop}
use Rattle.dsa_descriptor.specs.Faults.{AreZero}
use Rattle.dsa_descriptor.specs.Places.{u16_at, u64_at}

-- the bytes from one place to below another are zero
abbrev pub AreZeroFrom : List ℕ → ℕ → ℕ → Type 0
AreZeroFrom bytes lo hi = (i : ℕ) → lo ≤ i → i < hi → get_or bytes i 0 ≡ 0

-- the first eight bytes, from byte k on, of a number that has nothing at 256 ^ k and above
module _ (p : ℕ) (bytes : List ℕ) where
  eight_zero : u64_at p bytes ≡ 0 → (j : ℕ) → j < 8 → get_or (drop p bytes) j 0 ≡ 0
  unfolding u64_at
  eight_zero e zero lt = omega (arith, e)
  eight_zero e (suc zero) lt = omega (arith, e)
  eight_zero e (suc (suc zero)) lt = omega (arith, e)
  eight_zero e (suc (suc (suc zero))) lt = omega (arith, e)
  eight_zero e (suc (suc (suc (suc zero)))) lt = omega (arith, e)
  eight_zero e (suc (suc (suc (suc (suc zero))))) lt = omega (arith, e)
  eight_zero e (suc (suc (suc (suc (suc (suc zero)))))) lt = omega (arith, e)
  eight_zero e (suc (suc (suc (suc (suc (suc (suc zero))))))) lt = omega (arith, e)
  eight_zero e (suc (suc (suc (suc (suc (suc (suc (suc j)))))))) lt = absurd (omega (arith, lt))

  seven_zero : u64_at p bytes / 2 ^ 8 ≡ 0 → (j : ℕ) → 1 ≤ j → j < 8 → get_or (drop p bytes) j 0 ≡ 0
  unfolding u64_at
  seven_zero e zero some lt = absurd (omega (arith, some))
  seven_zero e (suc zero) some lt = omega (arith, e)
  seven_zero e (suc (suc zero)) some lt = omega (arith, e)
  seven_zero e (suc (suc (suc zero))) some lt = omega (arith, e)
  seven_zero e (suc (suc (suc (suc zero)))) some lt = omega (arith, e)
  seven_zero e (suc (suc (suc (suc (suc zero))))) some lt = omega (arith, e)
  seven_zero e (suc (suc (suc (suc (suc (suc zero)))))) some lt = omega (arith, e)
  seven_zero e (suc (suc (suc (suc (suc (suc (suc zero))))))) some lt = omega (arith, e)
  seven_zero e (suc (suc (suc (suc (suc (suc (suc (suc j)))))))) some lt = absurd (omega (arith, lt))

  four_zero : u64_at p bytes / 2 ^ 32 ≡ 0 → (j : ℕ) → 4 ≤ j → j < 8 → get_or (drop p bytes) j 0 ≡ 0
  unfolding u64_at
  four_zero e (suc (suc (suc (suc zero)))) some lt = omega (arith, e)
  four_zero e (suc (suc (suc (suc (suc zero))))) some lt = omega (arith, e)
  four_zero e (suc (suc (suc (suc (suc (suc zero)))))) some lt = omega (arith, e)
  four_zero e (suc (suc (suc (suc (suc (suc (suc zero))))))) some lt = omega (arith, e)
  four_zero e (suc (suc (suc (suc (suc (suc (suc (suc j)))))))) some lt = absurd (omega (arith, lt))
  four_zero e zero some lt = absurd (omega (arith, some))
  four_zero e (suc zero) some lt = absurd (omega (arith, some))
  four_zero e (suc (suc zero)) some lt = absurd (omega (arith, some))
  four_zero e (suc (suc (suc zero))) some lt = absurd (omega (arith, some))

  by_place : (k : ℕ) → ((j : ℕ) → k ≤ j → j < 8 → get_or (drop p bytes) j 0 ≡ 0) → AreZeroFrom bytes (p + k) (p + 8)
  by_place k each i le lt =
      let place : p + (i - p) ≡ i = omega arith in
      sym (get_or-drop p bytes (i - p) 0 ∙ ap (λ n. get_or bytes n 0) place) ∙ each (i - p) (omega arith) (omega arith)

  pub word_zero : u64_at p bytes ≡ 0 → AreZeroFrom bytes p (p + 8)
  word_zero e i le lt = by_place 0 (λ j _. eight_zero e j) i (omega arith) lt

  pub word_above_one : u64_at p bytes / 2 ^ 8 ≡ 0 → AreZeroFrom bytes (p + 1) (p + 8)
  word_above_one e = by_place 1 (seven_zero e)

  pub word_above_four : u64_at p bytes / 2 ^ 32 ≡ 0 → AreZeroFrom bytes (p + 4) (p + 8)
  word_above_four e = by_place 4 (four_zero e)

-- in a list of 64 bytes, those from a place on
pub zero_end : (bytes : List ℕ) (k : ℕ) → length bytes ≡ 64 → AreZeroFrom bytes k 48 → u64_at 48 bytes ≡ 0 → u64_at 56 bytes ≡ 0 → AreZero (drop k bytes)
zero_end bytes k long own middle last j d lt =
    get_or_default (drop k bytes) j d 0 lt ∙ get_or-drop k bytes j 0 ∙ there
  where
    there : get_or bytes (k + j) 0 ≡ 0
    there =
        elim (cases_lt (k + j) 48) [
          | inl low ↦ own (k + j) (omega arith) low
          | inr high ↦
              elim (cases_lt (k + j) 56) [
                | inl below ↦ word_zero 48 bytes middle (k + j) high below
                | inr above ↦ word_zero 56 bytes last (k + j) above (omega (arith, lt, length-drop k bytes, long))
              ]
        ]

pub zero_pair : (bytes : List ℕ) → u16_at 38 bytes ≡ 0 → AreZero (slice_range bytes 38 40)
unfolding u16_at
zero_pair bytes e zero d lt = get_or_default (slice_range bytes 38 40) 0 d 0 lt ∙ get_or-take 2 (drop 38 bytes) 0 0 (omega arith) ∙ omega (arith, e)
zero_pair bytes e (suc zero) d lt = get_or_default (slice_range bytes 38 40) 1 d 0 lt ∙ get_or-take 2 (drop 38 bytes) 1 0 (omega arith) ∙ omega (arith, e)
zero_pair bytes e (suc (suc j)) d lt = absurd (omega (arith, lt, length-take 2 (drop 38 bytes)))
