-- Numbers and patterns as words.
use Rattle.std.specs.Prelude.{ℕ, ◌+◌, ◌-◌, ◌*◌, ◌^◌, ◌==◌, ◌&&◌, nat_lt, List, [], ◌∷◌, ◌++◌, length, take, slice_index, false, Option, Some, None, Result, Ok, Err, codes, if◌then◌else◌}
use Rattle.std.specs.Char.{digit_value}
use Rattle.std.specs.Fmt.{digits}
use Rattle.std.specs.Int.{w64, to_le_bytes, from_le_bytes}
use Rattle.hex.specs.Hex.{encode_lower, decode_sized}
use Rattle.hex.specs.declared.error.FromHexError.{FromHexError}
use Rattle.dsa_lines.specs.Words.{Word}

-- the number that the digits write after those of n, if each is a digit of the base and it stays below 2 ^ 64
unfoldable pub numeral_after : ℕ → ℕ → List ℕ → Option ℕ
numeral_after base n [] = Some n
numeral_after base n (c ∷ cs) =
    if nat_lt (digit_value c) base then (
    if nat_lt (n * base + digit_value c) (2 ^ 64) then numeral_after base (n * base + digit_value c) cs else None
    ) else None

-- at least one digit
abbrev pub numeral : ℕ → List ℕ → Option ℕ
numeral base [] = None
numeral base (c ∷ cs) = numeral_after base 0 (c ∷ cs)

-- hexadecimal after 0x, else decimal
abbrev pub number_of : Word → Option ℕ
number_of (c ∷ d ∷ ds) = if c == 48 && d == 120 then numeral 16 ds else numeral 10 (c ∷ d ∷ ds)
number_of word = numeral 10 word

-- so many times the number, if that is below 2 ^ 64
abbrev pub scaled : ℕ → Option ℕ → Option ℕ
scaled unit None = None
scaled unit (Some n) = if nat_lt (n * unit) (2 ^ 64) then Some (n * unit) else None

-- the last byte of a word
abbrev pub last_byte : Word → ℕ
last_byte word = slice_index word (length word - 1)

-- the bytes before it
abbrev pub before_last : Word → Word
before_last word = take (length word - 1) word

-- a number of bytes: a K after it stands for 1,024 and an M for 1,048,576 of them
unfoldable pub size_of : Word → Option ℕ
size_of word =
    if last_byte word == 75 then scaled 1024 (number_of (before_last word)) else
    if last_byte word == 77 then scaled 1048576 (number_of (before_last word)) else number_of word

-- what an address is written as
abbrev pub hex : ℕ → List ℕ
hex n = codes "0x" ++ digits 16 false n

-- what a pattern is written as: its eight bytes, the lowest first, two digits each
abbrev pub pattern_word : ℕ → Word
pattern_word pattern = encode_lower (to_le_bytes w64 pattern)

-- the number of these eight bytes, if the digits decode
abbrev pub pattern_with : Result (List ℕ) FromHexError → Option ℕ
pattern_with (Ok bytes) = Some (from_le_bytes w64 bytes)
pattern_with (Err e) = None

-- the pattern of 16 hexadecimal digits
unfoldable pub pattern_of : Word → Option ℕ
pattern_of word = pattern_with (decode_sized word 8)
