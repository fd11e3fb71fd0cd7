-- Checksums of memory: CRC-32C, the remainder of dividing by the Castagnoli polynomial, whose coefficients are bits
-- (specification 341204 for its variants; RFC 3720, appendix B.4, for values).
use Rattle.std.specs.Prelude.{ℕ, zero, suc, ◌+◌, ◌*◌, ◌/◌, ◌%◌, ◌==◌, Bool, true, false, not, if◌then◌else◌, List, [], ◌∷◌, ◌++◌, length, map, replicate, reverse}
use Rattle.std.specs.List.{list_any}
use Rattle.dsa_checksum.specs.declared.variant.Variant.{Variant}

-- ---- polynomials: lists of their coefficients, that of the highest power first

-- the sum of two coefficients: whether they differ
abbrev pub differ : Bool → Bool → Bool
differ true b = not b
differ false b = b

-- the sum of a polynomial and of one with as many coefficients or fewer, whose highest powers are the same
abbrev pub plus : List Bool → List Bool → List Bool
plus [] ys = []
plus (x ∷ xs) [] = x ∷ xs
plus (x ∷ xs) (y ∷ ys) = differ x y ∷ plus xs ys

-- the powers below 32 that the Castagnoli polynomial has
abbrev pub castagnoli_powers : List ℕ
castagnoli_powers = 28 ∷ 27 ∷ 26 ∷ 25 ∷ 23 ∷ 22 ∷ 20 ∷ 19 ∷ 18 ∷ 14 ∷ 13 ∷ 11 ∷ 10 ∷ 9 ∷ 8 ∷ 6 ∷ 0 ∷ []

-- the coefficients of the powers below n of a polynomial that has these
abbrev pub coefficients : List ℕ → ℕ → List Bool
coefficients powers zero = []
coefficients powers (suc n) = list_any (λ power. power == n) powers ∷ coefficients powers n

-- those of the Castagnoli polynomial after that of its highest power, 32
abbrev pub castagnoli : List Bool
castagnoli = coefficients castagnoli_powers 32

-- long division, n powers far: at each power that is there the divisor is taken away, which is the same as added
abbrev pub divided : ℕ → List Bool → List Bool
divided zero xs = xs
divided (suc n) [] = []
divided (suc n) (false ∷ xs) = divided n xs
divided (suc n) (true ∷ xs) = divided n (plus xs castagnoli)

-- the remainder of a message that is raised by 32 powers, with what a part before it has left added to its highest 32
abbrev pub remainder : List Bool → List Bool → List Bool
remainder before message = divided (length message) (plus (message ++ replicate 32 false) before)

-- ---- numbers and bytes as coefficients

-- the lowest k bits of a number, from the lowest on
unfoldable pub bits_of : ℕ → ℕ → List Bool
bits_of zero n = []
bits_of (suc k) n = (n % 2 == 1) ∷ bits_of k (n / 2)

-- the number that has these bits, from the lowest on
abbrev pub number_of : List Bool → ℕ
number_of [] = 0
number_of (b ∷ ys) = (if b then 1 else 0) + 2 * number_of ys

-- the coefficients of a byte: its bits from the lowest on, or, if this is bypassed, from the highest on
abbrev pub byte_bits : Bool → ℕ → List Bool
byte_bits bypasses byte = if bypasses then reverse (bits_of 8 byte) else bits_of 8 byte

-- those of a message, byte after byte
abbrev pub message_bits : Bool → List ℕ → List Bool
message_bits bypasses [] = []
message_bits bypasses (byte ∷ bytes) = byte_bits bypasses byte ++ message_bits bypasses bytes

-- those of a seed: its bits, each inverted, from the lowest on, or, if this is bypassed, as they are from the highest on
abbrev pub value_bits : Bool → ℕ → List Bool
value_bits bypasses n = if bypasses then reverse (bits_of 32 n) else map not (bits_of 32 n)

-- the checksum that has these coefficients, in the same way
abbrev pub bits_value : Bool → List Bool → ℕ
bits_value bypasses bits = if bypasses then number_of (reverse bits) else number_of (map not bits)

-- ---- checksums

-- the checksum of bytes from a seed on
abbrev pub checksum : Variant → ℕ → List ℕ → ℕ
checksum v seed bytes =
    bits_value v.bypasses_inversion
    (remainder (value_bits v.bypasses_inversion seed) (message_bits v.bypasses_data_reflection bytes))
