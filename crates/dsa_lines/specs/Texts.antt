-- The operations that a text spells, and the canonical line of one.
use Rattle.std.specs.Prelude.{◌≡◌, ℕ, suc, ◌==◌, List, [], ◌∷◌, ◌++◌, codes, Option, Some, None, if◌then◌else◌}
use Rattle.std.specs.Str.{bytes_eq}
use Rattle.dsa_operations.specs.OperationFields.{OperationFields}
use Rattle.dsa_lines.specs.Words.{Word, words_of}
use Rattle.dsa_lines.specs.Grammar.{fields_of, ◌>>=◌}
use Rattle.dsa_lines.specs.Text.{line_text}
use Rattle.dsa_lines.specs.Recordings.{at_end, batch_at}

-- the lines with a byte before the first of them
abbrev pub with_byte : ℕ → List (List ℕ) → List (List ℕ)
with_byte c [] = (c ∷ []) ∷ []
with_byte c (line ∷ lines) = (c ∷ line) ∷ lines

-- the lines of a text: what is before, between and after its newlines
unfoldable pub lines_of : List ℕ → List (List ℕ)
lines_of [] = [] ∷ []
lines_of (c ∷ cs) = if c == 10 then [] ∷ lines_of cs else with_byte c (lines_of cs)

-- the operation of a line, after `fence` if the line begins with that word. A line without words, of a batch or of a
-- barrier has none. A plan has batches and fences of its own, so those of the text are passed over
unfoldable pub line_fields : List Word → Option (List OperationFields)
line_fields [] = Some []
line_fields (w ∷ ws) =
    if bytes_eq w (codes "batch") then (batch_at ws >>= λ b. Some []) else
    if bytes_eq w (codes "barrier") then at_end [] ws else
    if bytes_eq w (codes "fence") then (fields_of ws >>= λ f. Some (f ∷ [])) else
    (fields_of (w ∷ ws) >>= λ f. Some (f ∷ []))

-- the operation of a line and those of the lines after it, if these are of the grammar
abbrev pub with_fields : List OperationFields → Option (List OperationFields) → Option (List OperationFields)
with_fields fs None = None
with_fields fs (Some more) = Some (fs ++ more)

-- the operations of the lines, if each that has words is of the grammar
unfoldable pub all_fields : List (List ℕ) → Option (List OperationFields)
all_fields [] = Some []
all_fields (line ∷ lines) = line_fields (words_of line) >>= λ here. with_fields here (all_fields lines)

-- the text spells these operations
abbrev pub TextSpells : List ℕ → List OperationFields → Type 0
TextSpells text fs = all_fields (lines_of text) ≡ Some fs

-- the canonical line and a newline
abbrev pub text_line : OperationFields → List ℕ
text_line f = line_text f ++ 10 ∷ []

-- how many bytes come before the first that is c
abbrev pub before : ℕ → List ℕ → ℕ
before c [] = 0
before c (x ∷ xs) = if x == c then 0 else suc (before c xs)

-- ---- for private clauses

-- the lines after a newline
abbrev pub lines_after : List ℕ → List (List ℕ)
lines_after [] = []
lines_after (c ∷ cs) = lines_of cs
