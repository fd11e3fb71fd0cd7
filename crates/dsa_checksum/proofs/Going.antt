-- Checksums of one part after another.
use Rattle.std.proofs.Common.{◌≡◌, ℕ, suc, ◌+◌, ◌^◌, ◌<◌, Bool, true, false, not, if◌then◌else◌, List, [], ◌∷◌, ◌++◌, length, map, reverse, drop, slice_index_or, arith, refl, sym, ap, ap₂, ◌∙◌, ◌≤◌}
use Rattle.std.proofs.Math.ListN.{drop_of_length-le}
use Rattle.std.proofs.Math.Seq.{drop-cons}
use Rattle.std.proofs.lemmas.List.{append_assoc, reverse-reverse}
use Rattle.std.specs.Int.{bit_not, reverse_bits}
use Rattle.std.proofs.Common.{w32}
use Rattle.dsa_checksum.specs.declared.variant.Variant.{Variant}
use Rattle.dsa_checksum.specs.Checksum.{bits_of, number_of, byte_bits, message_bits, value_bits, bits_value, remainder, checksum}
use Rattle.dsa_checksum.proofs.Division.{fed, fed_append, fed_fits, division_is}
use Rattle.dsa_checksum.proofs.Turned.{number_of_bits, bits_of_not, reversed_32, reversed_lt}

-- the bits of a message are those of its parts
message_append : (x : Bool) (first second : List ℕ) → message_bits x (first ++ second) ≡ message_bits x first ++ message_bits x second
message_append x [] second = refl
message_append x (byte ∷ bytes) second =
    ap (λ bs. byte_bits x byte ++ bs) (message_append x bytes second)
    ∙ sym (append_assoc (byte_bits x byte) (message_bits x bytes) (message_bits x second))

-- a register that holds a seed, inverted or turned round
abbrev pub register_of : Bool → ℕ → ℕ
register_of x n = if x then reverse_bits w32 n else bit_not w32 n

pub register_fits : (x : Bool) (n : ℕ) → n < 2 ^ 32 → register_of x n < 2 ^ 32
register_fits true n lt = reversed_lt n
register_fits false n lt = omega arith

-- its bits are those of the seed
pub register_bits : (x : Bool) (n : ℕ) → n < 2 ^ 32 → bits_of 32 (register_of x n) ≡ value_bits x n
register_bits true n lt = reversed_32 n
register_bits false n lt = bits_of_not 32 n lt

-- and it is the value of its own bits
pub register_value : (x : Bool) (n : ℕ) → n < 2 ^ 32 → register_of x n ≡ bits_value x (bits_of 32 n)
register_value true n lt = sym (ap number_of (sym (reversed_32 n)) ∙ number_of_bits 32 (reverse_bits w32 n) (reversed_lt n))
register_value false n lt = sym (ap number_of (sym (bits_of_not 32 n lt)) ∙ number_of_bits 32 (bit_not w32 n) (omega arith))

-- not twice is as before
not_not : (bs : List Bool) → map not (map not bs) ≡ bs
not_not [] = refl
not_not (true ∷ bs) = ap (λ ys. true ∷ ys) (not_not bs)
not_not (false ∷ bs) = ap (λ ys. false ∷ ys) (not_not bs)

-- the coefficients of the value of a register's are the register's
pub value_again : (x : Bool) (r : ℕ) → r < 2 ^ 32 → value_bits x (bits_value x (bits_of 32 r)) ≡ bits_of 32 r
value_again true r fits =
    ap (λ n. reverse (bits_of 32 n)) (sym (register_value true r fits)) ∙ ap reverse (reversed_32 r) ∙ reverse-reverse (bits_of 32 r)
value_again false r fits =
    ap (λ n. map not (bits_of 32 n)) (sym (register_value false r fits)) ∙ ap (map not) (bits_of_not 32 r fits) ∙ not_not (bits_of 32 r)

-- the remainder of two parts is that of the second after that of the first
pub remainder_append : (r : ℕ) (first second : List Bool) → r < 2 ^ 32 →
    remainder (remainder (bits_of 32 r) first) second ≡ remainder (bits_of 32 r) (first ++ second)
remainder_append r first second fits =
    ap (λ before. remainder before second) (division_is r first fits)
    ∙ division_is (fed r first) second (fed_fits r first fits)
    ∙ ap (bits_of 32) (sym (fed_append r first second))
    ∙ sym (division_is r (first ++ second) fits)

-- so the checksum of two parts is that of the second with that of the first as its seed
pub goes_on : (v : Variant) (seed : ℕ) (first second : List ℕ) → seed < 2 ^ 32 →
    checksum v (checksum v seed first) second ≡ checksum v seed (first ++ second)
goes_on v seed first second lt =
    let x : Bool = v.bypasses_inversion in
    let r : ℕ = register_of x seed in
    let fits : r < 2 ^ 32 = register_fits x seed lt in
    let one : List Bool = message_bits v.bypasses_data_reflection first in
    let two : List Bool = message_bits v.bypasses_data_reflection second in
    let begun : remainder (value_bits x seed) one ≡ bits_of 32 (fed r one) =
    ap (λ before. remainder before one) (sym (register_bits x seed lt)) ∙ division_is r one fits in
    ap (λ bs. bits_value x (remainder (value_bits x (bits_value x bs)) two)) begun
    ∙ ap (λ bs. bits_value x (remainder bs two)) (value_again x (fed r one) (fed_fits r one fits) ∙ sym (division_is r one fits))
    ∙ ap (bits_value x)
    (remainder_append r one two fits ∙ ap₂ remainder (register_bits x seed lt) (sym (message_append v.bypasses_data_reflection first second)))

-- the remainder of what is left after one more byte
pub remainder_left : (x : Bool) (r : ℕ) (bytes : List ℕ) (i : ℕ) → r < 2 ^ 32 → i < length bytes →
    remainder (remainder (bits_of 32 r) (byte_bits x (slice_index_or bytes i 0))) (message_bits x (drop (i + 1) bytes))
    ≡ remainder (bits_of 32 r) (message_bits x (drop i bytes))
remainder_left x r bytes i fits lt =
    let next : suc i ≡ i + 1 = omega arith in
    remainder_append r (byte_bits x (slice_index_or bytes i 0)) (message_bits x (drop (i + 1) bytes)) fits
    ∙ ap (λ bs. remainder (bits_of 32 r) (message_bits x bs)) (sym (drop-cons bytes i 0 lt ∙ ap (λ k. slice_index_or bytes i 0 ∷ drop k bytes) next))

-- and that of nothing
pub remainder_end : (x : Bool) (r : ℕ) (bytes : List ℕ) (i : ℕ) → r < 2 ^ 32 → length bytes ≤ i →
    remainder (bits_of 32 r) (message_bits x (drop i bytes)) ≡ bits_of 32 r
remainder_end x r bytes i fits le = ap (λ bs. remainder (bits_of 32 r) (message_bits x bs)) (drop_of_length-le bytes le) ∙ division_is r [] fits
