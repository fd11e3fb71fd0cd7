-- The jobs of a text: one on each line (this project's choice).
use Rattle.std.specs.Prelude.{ℕ, ◌==◌, List, [], ◌∷◌, if◌then◌else◌}

-- the lines with a byte before the first of them
abbrev pub with_byte : ℕ → List (List ℕ) → List (List ℕ)
with_byte c [] = (c ∷ []) ∷ []
with_byte c (line ∷ lines) = (c ∷ line) ∷ lines

-- the lines of a text: what is before, between and after its newlines
unfoldable pub lines_of : List ℕ → List (List ℕ)
lines_of [] = [] ∷ []
lines_of (c ∷ cs) = if c == 10 then [] ∷ lines_of cs else with_byte c (lines_of cs)

-- of these lines those that a newline ends: all but the last
abbrev pub ended_in : List (List ℕ) → List (List ℕ)
ended_in [] = []
ended_in (line ∷ []) = []
ended_in (line ∷ next ∷ lines) = line ∷ ended_in (next ∷ lines)

-- the lines of a text that a newline ends
abbrev pub ended_of : List ℕ → List (List ℕ)
ended_of text = ended_in (lines_of text)

-- the last line is a job unless it is empty
abbrev pub last_job : List ℕ → List (List ℕ)
last_job [] = []
last_job (c ∷ cs) = (c ∷ cs) ∷ []

-- of these lines those that are jobs: each that a newline ends, also if it is empty, and the last one
abbrev pub jobs_in : List (List ℕ) → List (List ℕ)
jobs_in [] = []
jobs_in (line ∷ []) = last_job line
jobs_in (line ∷ next ∷ lines) = line ∷ jobs_in (next ∷ lines)

-- the texts of the jobs of a text
abbrev pub jobs_of : List ℕ → List (List ℕ)
jobs_of text = jobs_in (lines_of text)
