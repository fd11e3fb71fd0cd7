-- The forms of text that a recording comes in, and the bytes that each spells (this project's choice; the forms are what
-- xxd, xxd -p and hexdump -C write).
use Rattle.std.specs.Prelude.{ℕ, Bool, true, false, ◌≡◌, ◌⊎◌, ◌||◌, ◌&&◌, ◌==◌, nat_lt, nat_le, Option, Some, None, List, [], ◌∷◌, ◌++◌, Ok, Err, if◌then◌else◌}
use Rattle.std.specs.List.{AllByRecursion}
use Rattle.std.specs.Char.{digit_value}
use Rattle.hex.specs.Hex.{decode_of}
use Rattle.hex.specs.declared.error.FromHexError.{FromHexError}
use Rattle.dsa_forms.specs.declared.forms.Form.{Form}
use Rattle.dsa_forms.specs.declared.forms.Form.TheVariants.{Plain, Xxd, Hexdump}
use Rattle.dsa_forms.specs.declared.forms.Part.{Part}
use Rattle.dsa_forms.specs.declared.forms.Part.TheVariants.{Offset, Digits, Blank, Rest}

-- a space, a tab, or a carriage return
abbrev pub is_blank : ℕ → Bool
is_blank c = c == 32 || c == 9 || c == 13

-- a hexadecimal digit
abbrev pub is_digit : ℕ → Bool
is_digit c = nat_lt (digit_value c) 16

-- the part of its line that the byte after c belongs to, where c belongs to this one: an offset ends with ':' (xxd) or with
-- a blank (hexdump), the digits end with two blanks (xxd) or with '|' (hexdump), and the rest goes up to the newline
abbrev pub part_of_line : Form → Part → ℕ → Part
part_of_line Plain part c = Digits
part_of_line Xxd Offset c = if c == 58 then Digits else Offset
part_of_line Xxd Digits c = if is_blank c then Blank else Digits
part_of_line Xxd Blank c = if is_blank c then Rest else Digits
part_of_line Xxd Rest c = Rest
part_of_line Hexdump Offset c = if is_blank c then Digits else Offset
part_of_line Hexdump Digits c = if c == 124 then Rest else Digits
part_of_line Hexdump Blank c = if c == 124 then Rest else Digits
part_of_line Hexdump Rest c = Rest

-- the part that a line begins with
abbrev pub first_part : Form → Part
first_part Plain = Digits
first_part Xxd = Offset
first_part Hexdump = Offset

-- the part of the next byte, after byte c: a newline begins a line
abbrev pub next_part : Form → Part → ℕ → Part
next_part form part c = if c == 10 then first_part form else part_of_line form part c

-- what belongs to a part and spells nothing: of an offset its digits and what ends it, blanks between digits, the '|' after
-- them, and all of the rest
abbrev pub is_passed : Form → Part → ℕ → Bool
is_passed Plain part c = is_blank c
is_passed Xxd Offset c = is_digit c || (c == 58 || is_blank c)
is_passed Xxd Digits c = is_blank c
is_passed Xxd Blank c = is_blank c
is_passed Xxd Rest c = true
is_passed Hexdump Offset c = is_digit c || is_blank c
is_passed Hexdump Digits c = is_blank c || c == 124
is_passed Hexdump Blank c = is_blank c || c == 124
is_passed Hexdump Rest c = true

-- a byte, where it does not go: a digit of the bytes that the text spells, or what its form does not have
abbrev pub kept : Form → Part → ℕ → List ℕ
kept form part c = if c == 10 || is_passed form part c then [] else (c ∷ [])

-- what is left of a text whose first byte belongs to this part of its line
unfoldable pub digits_from : Form → Part → List ℕ → List ℕ
digits_from form part [] = []
digits_from form part (c ∷ cs) = kept form part c ++ digits_from form (next_part form part c) cs

-- the digits of the bytes that a text spells, and whatever its form does not have
abbrev pub digits_of : Form → List ℕ → List ℕ
digits_of form text = digits_from form (first_part form) text

-- ---- which form a recording has

-- printable, a tab, a newline or a carriage return
abbrev pub is_text_byte : ℕ → Bool
is_text_byte c = c == 9 || (c == 10 || (c == 13 || (nat_le 32 c && nat_le c 126)))

-- the recording is a text; a recording that is none is its entries as they are
abbrev pub IsText : List ℕ → Type 0
IsText bytes = AllByRecursion (λ c. is_text_byte c ≡ true) bytes

-- a digit, a blank, or a newline
abbrev pub is_spread : ℕ → Bool
is_spread c = is_digit c || (is_blank c || c == 10)

-- what the first other byte says: ':' ends an offset of xxd; '|' begins the characters of hexdump, and '*' is for lines
-- that it leaves out
abbrev pub form_by : ℕ → Option Form
form_by c = if c == 58 then Some Xxd else if c == 124 || c == 42 then Some Hexdump else None

-- the form of a text, if it is one of these
unfoldable pub form_of : List ℕ → Option Form
form_of [] = Some Plain
form_of (c ∷ cs) = if is_spread c then form_of cs else form_by c

-- a blank or a newline
abbrev pub is_gap : ℕ → Bool
is_gap c = is_blank c || c == 10

-- what comes after the blanks and newlines at the head of a text
abbrev pub after_gap : List ℕ → List ℕ
after_gap [] = []
after_gap (c ∷ cs) = if is_gap c then after_gap cs else (c ∷ cs)

-- digits, and a blank, a newline, a colon or the end after them. `seen`: digits come before it
unfoldable pub is_word_of_digits : Bool → List ℕ → Bool
is_word_of_digits seen [] = seen
is_word_of_digits seen (c ∷ cs) =
    if is_digit c then is_word_of_digits true cs else seen && (is_gap c || c == 58)

-- the first word of a text is of digits, and maybe a colon is after them, as in a text of bytes; no line of a recording begins so
abbrev pub begins_with_digits : List ℕ → Bool
begins_with_digits text = is_word_of_digits false (after_gap text)

-- ---- the bytes of a text

-- the text spells these bytes, in its form
abbrev pub SpellsBytes : List ℕ → List ℕ → Type 0
SpellsBytes text bytes =
    (form : Form) × (form_of text ≡ Some form) × (decode_of (digits_of form text) ≡ Ok bytes)

-- it spells none: it has no form, or its digits are no bytes
abbrev pub SpellsNone : List ℕ → Type 0
SpellsNone text =
    (form_of text ≡ None)
    ⊎ ((form : Form) × (e : FromHexError) × (form_of text ≡ Some form) × (decode_of (digits_of form text) ≡ Err e))
