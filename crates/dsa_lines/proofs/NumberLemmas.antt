-- Numbers as words.
use Rattle.std.proofs.Common.{◌≡◌, ℕ, zero, suc, ◌+◌, ◌*◌, ◌/◌, ◌%◌, ◌^◌, ◌<◌, ◌≤◌, Bool, true, false, cond, List, [], ◌∷◌, length, get_or, Some, refl, ap, ◌∙◌, arith, ◌≢◌, ◌-◌}
use Rattle.std.proofs.Math.Nat.{mul-le-mul_left}
use Rattle.std.specs.Prelude.{◌==◌, ◌&&◌, decimal, slice_index}
use Rattle.std.specs.Char.{digit_value}
use Rattle.std.specs.Fmt.{digits}
use Rattle.std.specs.Int.{w64, to_le_bytes}
use Rattle.std.proofs.lemmas.Nat.{from_le_bytes-to_le_bytes_8}
use Rattle.hex.specs.Hex.{IsBytes, encode_with, lower_digits}
use Rattle.hex.proofs.HexLemmas.{decode_sized-encode_lower, length-encode_with}
use Rattle.std.specs.Str.Parse.{AllDigits, IsNumeral, digits_value, digits_value_after}
use Rattle.std.proofs.lemmas.Bool.{ne_eqb, lt-ltb}
use Rattle.std.proofs.lemmas.Fmt.{digits_is_IsNumeral}
use Rattle.dsa_lines.specs.Words.{is_in_word}
use Rattle.dsa_lines.specs.Numbers.{numeral, numeral_after, number_of, last_byte, size_of, hex, pattern_word, pattern_of}
use Rattle.dsa_lines.specs.Text.{spaced}
use Rattle.dsa_lines.proofs.WordLemmas.{all_in, is_word, both}

pub small_product : (value base : ℕ) → value < 2 ^ 64 → base ≤ 16 → value * base < 2 ^ 68
small_product value base lt le = omega (arith, mul-le-mul_left value le)

-- ---- numerals are read

after_ge : (base n : ℕ) (ds : List ℕ) → 1 ≤ base → n ≤ digits_value_after base n ds
after_ge base n [] le = omega arith
after_ge base n (c ∷ cs) le = omega (arith, after_ge base (n * base + digit_value c) cs le, mul-le-mul_left n le)

numeral_after_again : (base n : ℕ) (ds : List ℕ) → 1 ≤ base → AllDigits base ds → digits_value_after base n ds < 2 ^ 64
    → numeral_after base n ds ≡ Some (digits_value_after base n ds)
unfolding numeral_after
numeral_after_again base n [] le all lt = refl
numeral_after_again base n (c ∷ cs) le all lt =
    let fits : n * base + digit_value c < 2 ^ 64 = omega (arith, after_ge base (n * base + digit_value c) cs le) in
    rw (lt-ltb _ _ all.0, lt-ltb _ _ fits) (numeral_after_again base (n * base + digit_value c) cs le all.1 lt)

numeral_again : (base : ℕ) (ds : List ℕ) → 1 ≤ base → IsNumeral base ds → digits_value base ds < 2 ^ 64 → numeral base ds ≡ Some (digits_value base ds)
numeral_again base [] le h lt = absurd (omega arith)
numeral_again base (c ∷ cs) le h lt = numeral_after_again base 0 (c ∷ cs) le h.1 lt

-- ---- digits are bytes of words

digit_byte : (c : ℕ) → digit_value c < 16 → is_in_word c ≡ true
digit_byte c lt =
    let no : (k : ℕ) → 16 ≤ digit_value k → c ≡ k → ⊥ = λ k le e. omega (arith, ap digit_value e) in
    rw (ne_eqb c 32 (no 32 (omega arith)), ne_eqb c 9 (no 9 (omega arith)), ne_eqb c 13 (no 13 (omega arith)), ne_eqb c 44 (no 44 (omega arith)), ne_eqb c 10 (no 10 (omega arith)), ne_eqb c 35 (no 35 (omega arith))) refl

digit_bytes : (base : ℕ) (ds : List ℕ) → base ≤ 16 → AllDigits base ds → all_in ds ≡ true
digit_bytes base [] le all = refl
digit_bytes base (c ∷ cs) le all = rw (digit_byte c (omega arith), digit_bytes base cs le all.1) refl

numeral_word : (base : ℕ) (ds : List ℕ) → base ≤ 16 → IsNumeral base ds → is_word ds ≡ true
numeral_word base [] le h = absurd (omega arith)
numeral_word base (c ∷ cs) le h =
    let comma : c ≡ 44 → ⊥ = λ e. omega (arith, ap digit_value e, h.1.0) in
    rw (digit_byte c (omega arith), digit_bytes base cs le h.1.1, ne_eqb c 44 comma) refl

-- ---- the two forms

pub hex_word : (n : ℕ) → n < 2 ^ 64 → is_word (hex n) ≡ true
hex_word n lt =
    let d = digits_is_IsNumeral 16 false (omega arith) (omega arith) n (omega arith) in
    digit_bytes 16 (digits 16 false n) (omega arith) d.0.1

pub decimal_word : (n : ℕ) → n < 2 ^ 64 → is_word (decimal n) ≡ true
decimal_word n lt =
    let d = digits_is_IsNumeral 10 false (omega arith) (omega arith) n (omega arith) in
    numeral_word 10 (digits 10 false n) (omega arith) d.0

pub hex_again : (n : ℕ) → n < 2 ^ 64 → number_of (hex n) ≡ Some n
hex_again n lt =
    let d = digits_is_IsNumeral 16 false (omega arith) (omega arith) n (omega arith) in
    numeral_again 16 (digits 16 false n) (omega arith) d.0 (rw d.1 lt) ∙ ap Some d.1

and_no : (b c : Bool) → c ≡ false → (b && c) ≡ false
and_no true c e = e
and_no false c e = refl

plain_number : (ds : List ℕ) → AllDigits 10 ds → number_of ds ≡ numeral 10 ds
plain_number [] all = refl
plain_number (c ∷ []) all = refl
plain_number (c ∷ d ∷ ds) all =
    let x : d ≡ 120 → ⊥ = λ e. omega (arith, ap digit_value e, all.1.0) in
    rw (and_no (c == 48) (d == 120) (ne_eqb d 120 x)) refl

pub decimal_again : (n : ℕ) → n < 2 ^ 64 → number_of (decimal n) ≡ Some n
decimal_again n lt =
    let d = digits_is_IsNumeral 10 false (omega arith) (omega arith) n (omega arith) in
    plain_number (digits 10 false n) d.0.1 ∙ numeral_again 10 (digits 10 false n) (omega arith) d.0 (rw d.1 lt) ∙ ap Some d.1

-- ---- a number of bytes

digit_at : (base : ℕ) (ds : List ℕ) (k : ℕ) → AllDigits base ds → k < length ds → digit_value (slice_index ds k) < base
digit_at base [] k all lt = absurd (omega arith)
digit_at base (c ∷ cs) zero all lt = all.0
digit_at base (c ∷ cs) (suc k) all lt = digit_at base cs k all.1 (omega arith)

-- neither K nor M
last_digit : (ds : List ℕ) → IsNumeral 10 ds → (last_byte ds ≢ 75) × (last_byte ds ≢ 77)
last_digit [] h = absurd (omega arith)
last_digit (c ∷ cs) h =
    let digit = digit_at 10 (c ∷ cs) (length (c ∷ cs) - 1) h.1 (omega arith) in
    (λ e. omega (arith, ap digit_value e, digit), λ e. omega (arith, ap digit_value e, digit))

pub size_again : (n : ℕ) → n < 2 ^ 64 → size_of (decimal n) ≡ Some n
unfolding size_of
size_again n lt =
    let d = digits_is_IsNumeral 10 false (omega arith) (omega arith) n (omega arith) in
    let last = last_digit (digits 10 false n) d.0 in
    rw (ne_eqb (last_byte (decimal n)) 75 last.0, ne_eqb (last_byte (decimal n)) 77 last.1) (decimal_again n lt)

-- ---- a blank comes before a number

spaced_plain : (ds : List ℕ) → IsNumeral 10 ds → spaced ds ≡ 32 ∷ ds
spaced_plain [] h = absurd (omega arith)
spaced_plain (c ∷ cs) h = let comma : c ≡ 44 → ⊥ = λ e. omega (arith, ap digit_value e, h.1.0) in rw (ne_eqb c 44 comma) refl

pub spaced_decimal : (n : ℕ) → n < 2 ^ 64 → spaced (decimal n) ≡ 32 ∷ decimal n
spaced_decimal n lt = spaced_plain (digits 10 false n) (digits_is_IsNumeral 10 false (omega arith) (omega arith) n (omega arith)).0

-- ---- patterns

-- past its end a list has 0, which is a byte of a word too
in_at : (ds : List ℕ) (k : ℕ) → all_in ds ≡ true → is_in_word (get_or ds k 0) ≡ true
in_at [] k e = refl
in_at (c ∷ cs) zero e = (both (is_in_word c) (all_in cs) e).0
in_at (c ∷ cs) (suc k) e = in_at cs k (both (is_in_word c) (all_in cs) e).1

encoded_in : (bytes : List ℕ) → all_in (encode_with lower_digits bytes) ≡ true
unfolding encode_with
encoded_in [] = refl
encoded_in (b ∷ bs) = rw (in_at lower_digits (b / 16) refl, in_at lower_digits (b % 16) refl, encoded_in bs) refl

not_comma : (c : ℕ) → is_in_word c ≡ true → c ≡ 44 → ⊥
not_comma c e k = let no : is_in_word 44 ≡ true = rw k at e in cc

cond_no : (b x y : Bool) → b ≡ false → y ≡ true → cond b x y ≡ true
cond_no true x y e h = absurd cc
cond_no false x y e h = h

plain_word : (w : List ℕ) → all_in w ≡ true → 0 < length w → is_word w ≡ true
plain_word [] e lt = absurd (omega arith)
plain_word (c ∷ cs) e lt = cond_no (c == 44) (length cs == 0) (is_in_word c && all_in cs) (ne_eqb c 44 (not_comma c (both (is_in_word c) (all_in cs) e).0)) e

plain_spaced : (w : List ℕ) → all_in w ≡ true → 0 < length w → spaced w ≡ 32 ∷ w
plain_spaced [] e lt = absurd (omega arith)
plain_spaced (c ∷ cs) e lt = let p = both (is_in_word c) (all_in cs) e in rw (ne_eqb c 44 (not_comma c p.0)) refl

bytes_length : (p : ℕ) → length (to_le_bytes w64 p) ≡ 8
bytes_length p = refl

byte : (n : ℕ) → n % 256 < 256
byte n = omega arith

none : 0 < 256
none = omega arith

bytes_are : (p : ℕ) → IsBytes (to_le_bytes w64 p)
bytes_are p zero = byte p
bytes_are p (suc zero) = byte (p / 256)
bytes_are p (suc (suc zero)) = byte (p / 65536)
bytes_are p (suc (suc (suc zero))) = byte (p / 16777216)
bytes_are p (suc (suc (suc (suc zero)))) = byte (p / 4294967296)
bytes_are p (suc (suc (suc (suc (suc zero))))) = byte (p / 1099511627776)
bytes_are p (suc (suc (suc (suc (suc (suc zero)))))) = byte (p / 281474976710656)
bytes_are p (suc (suc (suc (suc (suc (suc (suc zero))))))) = byte (p / 72057594037927936)
bytes_are p (suc (suc (suc (suc (suc (suc (suc (suc i)))))))) = none

pattern_long : (p : ℕ) → 0 < length (pattern_word p)
pattern_long p = omega (arith, length-encode_with lower_digits (to_le_bytes w64 p), bytes_length p)

-- the digits of bytes are one word
digits_long : (bytes : List ℕ) → 0 < length bytes → 0 < length (encode_with lower_digits bytes)
digits_long bytes lt = omega (arith, length-encode_with lower_digits bytes)

pub digits_word : (bytes : List ℕ) → 0 < length bytes → is_word (encode_with lower_digits bytes) ≡ true
digits_word bytes lt = plain_word (encode_with lower_digits bytes) (encoded_in bytes) (digits_long bytes lt)

pub spaced_digits : (bytes : List ℕ) → 0 < length bytes → spaced (encode_with lower_digits bytes) ≡ 32 ∷ encode_with lower_digits bytes
spaced_digits bytes lt = plain_spaced (encode_with lower_digits bytes) (encoded_in bytes) (digits_long bytes lt)

pub pattern_is_word : (p : ℕ) → is_word (pattern_word p) ≡ true
pattern_is_word p = plain_word (pattern_word p) (encoded_in (to_le_bytes w64 p)) (pattern_long p)

pub spaced_pattern : (p : ℕ) → spaced (pattern_word p) ≡ 32 ∷ pattern_word p
spaced_pattern p = plain_spaced (pattern_word p) (encoded_in (to_le_bytes w64 p)) (pattern_long p)

pub pattern_again : (p : ℕ) → p < 2 ^ 64 → pattern_of (pattern_word p) ≡ Some p
unfolding pattern_of
pattern_again p lt = rw (decode_sized-encode_lower (to_le_bytes w64 p) 8 (bytes_length p) (bytes_are p)) (ap Some (from_le_bytes-to_le_bytes_8 p lt))
