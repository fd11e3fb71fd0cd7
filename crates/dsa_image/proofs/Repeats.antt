-- Bytes that repeat a row of eight.
use Rattle.std.proofs.Common.{◌≡◌, ℕ, zero, suc, ◌+◌, ◌-◌, ◌%◌, ◌<◌, List, length, take, drop, get_or, inl, inr, sym, ap, ◌∙◌, arith}
use Rattle.std.proofs.lemmas.Bool.{cases_lt}
use Rattle.std.proofs.lemmas.List.{get_or-drop, get_or-take}

-- if the first eight are the row, and each later byte is the one eight places before it, each byte is the row's
pub repeats_row : (bytes row : List ℕ) → take 8 bytes ≡ row → drop 8 bytes ≡ take (length bytes - 8) bytes → (n k : ℕ) → k < n → k < length bytes
    → get_or bytes k 0 ≡ get_or row (k % 8) 0
repeats_row bytes row front shifted zero k lt inside = absurd (omega arith)
repeats_row bytes row front shifted (suc n) k lt inside = elim (cases_lt k 8) [
  | inl small ↦
      let same : k % 8 ≡ k = omega arith in
      sym (get_or-take 8 bytes k 0 small) ∙ ap (λ (xs : List ℕ). get_or xs k 0) front ∙ ap (λ (i : ℕ). get_or row i 0) (sym same)
  | inr large ↦
      let back : 8 + (k - 8) ≡ k = omega arith in
      let turn : (k - 8) % 8 ≡ k % 8 = omega arith in
      ap (λ (i : ℕ). get_or bytes i 0) (sym back) ∙ sym (get_or-drop 8 bytes (k - 8) 0) ∙ ap (λ (xs : List ℕ). get_or xs (k - 8) 0) shifted
      ∙ get_or-take (length bytes - 8) bytes (k - 8) 0 (omega arith) ∙ repeats_row bytes row front shifted n (k - 8) (omega arith) (omega arith)
      ∙ ap (λ (i : ℕ). get_or row i 0) turn
]
