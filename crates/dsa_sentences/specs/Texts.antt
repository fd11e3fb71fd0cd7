-- The text of a refusal: the sentence of its cause, and after it that of the cause within, with the numbers that it names.
use Rattle.std.specs.Prelude.{ℕ, ◌+◌, ◌==◌, List, [], ◌∷◌, ◌++◌, codes, decimal, if◌then◌else◌}
use Rattle.dsa_sentences.specs.Sentences.{said, sentence}

-- a byte, or the number in its place: the first for `#`, the second for `$`
abbrev pub filled_byte : ℕ → ℕ → ℕ → List ℕ
filled_byte c first second = if c == 35 then decimal first else if c == 36 then decimal second else (c ∷ [])

-- a sentence with its numbers in place of `#` and `$`
unfoldable pub filled : List ℕ → ℕ → ℕ → List ℕ
filled [] first second = []
filled (c ∷ cs) first second = filled_byte c first second ++ filled cs first second

-- the sentence of a cause within, after a colon
abbrev pub within : List ℕ → List ℕ
within [] = []
within (c ∷ cs) = codes ": " ++ (c ∷ cs)

-- the sentence of a cause with that of the cause within; no text without a cause
abbrev pub with_inner : List ℕ → List ℕ → List ℕ
with_inner [] inner = []
with_inner (c ∷ cs) inner = (c ∷ cs) ++ within inner

-- the text of a refusal: the sentence of its cause and of the cause within, with the numbers that they name
abbrev pub refusal_text : ℕ → ℕ → ℕ → ℕ → List ℕ
refusal_text number inner first second = filled (with_inner (said number first) (sentence inner)) first second

-- the most bytes that a byte of a sentence, or the number in its place, takes: a number has at most 20 digits
abbrev pub longest_byte : ℕ → ℕ
longest_byte c = if c == 35 then 20 else if c == 36 then 20 else 1

-- the most bytes of a sentence with its numbers
abbrev pub longest : List ℕ → ℕ
longest [] = 0
longest (c ∷ cs) = longest_byte c + longest cs
