-- The table of remainders.
use Rattle.std.proofs.Common.{◌≡◌, ℕ, zero, suc, ◌+◌, ◌/◌, ◌%◌, ◌^◌, ◌<◌, ◌==◌, ◌&&◌, Bool, true, false, List, [], ◌∷◌, length, slice_index_or, add-zero, zero-add, arith, refl, sym, ap, ◌∙◌, bit_and, bit_xor, mod-lt}
use Rattle.std.proofs.lemmas.Bool.Decides.{nat_tests}
use Rattle.std.proofs.lemmas.Nat.{and_mask, xor_shr}
use lib.Bits.{xor_zero_r}
use Rattle.dsa_checksum.specs.declared.table.TheConstants.{REMAINDERS}
use Rattle.dsa_checksum.specs.Checksum.{bits_of, remainder}
use Rattle.dsa_checksum.proofs.Steps.{steps, steps_split}
use Rattle.dsa_checksum.proofs.Division.{fed_number, division_is}

-- the items are what eight steps leave of the numbers from i on
abbrev are_remainders : ℕ → List ℕ → Bool
are_remainders i [] = true
are_remainders i (t ∷ ts) = (t == steps 8 i) && are_remainders (suc i) ts

they_are : are_remainders 0 REMAINDERS ≡ true
they_are = refl

both : (a b : Bool) → (a && b) ≡ true → (a ≡ true) × (b ≡ true)
both true b e = (refl, e)
both false b e = absurd cc

-- so the item at a place is what they leave of its number
item_is : (i k : ℕ) (ts : List ℕ) → are_remainders i ts ≡ true → k < length ts → slice_index_or ts k 0 ≡ steps 8 (i + k)
item_is i k [] are lt = absurd (omega arith)
item_is i zero (t ∷ ts) are lt =
    let first : (t == steps 8 i) ≡ true = (both (t == steps 8 i) _ are).0 in
    let equal : t ≡ steps 8 i = grind (arith, nat_tests, first) in
    equal ∙ ap (steps 8) (sym (add-zero i))
item_is i (suc k) (t ∷ ts) are lt = item_is (suc i) k ts (both (t == steps 8 i) _ are).1 (omega arith) ∙ ap (steps 8) (omega arith)

-- so the register after one more byte, by the table, is the remainder
pub after_byte_is : (r b : ℕ) → r < 2 ^ 32 → b < 2 ^ 8 →
    bits_of 32 (bit_xor (slice_index_or REMAINDERS (bit_and (bit_xor r b) 255) 0) (r / 256)) ≡ remainder (bits_of 32 r) (bits_of 8 b)
after_byte_is r b fits lt =
    let low : bit_and (bit_xor r b) 255 ≡ bit_xor r b % 2 ^ 8 = and_mask (bit_xor r b) 8 in
    let small : bit_xor r b % 2 ^ 8 < 256 = mod-lt (bit_xor r b) (omega arith) in
    let above : bit_xor r b / 2 ^ 8 ≡ r / 256 = xor_shr r b 8 ∙ ap (bit_xor (r / 256)) (omega arith) ∙ xor_zero_r (r / 256) in
    sym
    (division_is r (bits_of 8 b) fits
    ∙ ap (bits_of 32)
    (fed_number 8 b r lt ∙ steps_split 8 (bit_xor r b)
    ∙ (λ i. bit_xor (sym (ap (λ k. slice_index_or REMAINDERS k 0) low ∙ item_is 0 (bit_xor r b % 2 ^ 8) REMAINDERS they_are small ∙ ap (steps 8) (zero-add (bit_xor r b % 2 ^ 8))) i) (above i))))
