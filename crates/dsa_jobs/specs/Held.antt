-- What is known while lines are read, for private clauses.
use Rattle.std.specs.Prelude.{◌≡◌, ◌⊎◌, ℕ, ◌<◌, ◌≤◌, List, [], ◌∷◌, ◌++◌, length, Option, Some, None}
use Rattle.dsa_calls.specs.declared.fault.PlanFault.{PlanFault}
use Rattle.dsa_calls.specs.declared.fault.PlanFault.TheVariants.{Memory, JobTooLong}
use Rattle.dsa_report.specs.Reading.{longest_text}
use Rattle.dsa_jobs.specs.declared.line.Line.{Line}
use Rattle.dsa_jobs.specs.Writes.{WritesLines}

-- the text isn't empty, and is refused so whatever comes after it
abbrev pub IsRefused : PlanFault → List ℕ → Type 0
IsRefused fault text = (0 < length text) × ((fault ≡ Memory) ⊎ ((fault ≡ JobTooLong) × (longest_text < length text)))

-- this fault and these bytes are kept of the text
abbrev pub Keeps : Option PlanFault → List ℕ → List ℕ → Type 0
Keeps None bytes text = (bytes ≡ text) × (length text ≤ longest_text)
Keeps (Some fault) bytes text = IsRefused fault text

-- the line holds what is needed of this text
abbrev pub Holds : Line → List ℕ → Type 0
Holds line text = Keeps line.refused line.bytes.items text

-- no byte of the text is a newline
abbrev pub HasNoNewline : List ℕ → Type 0
HasNoNewline [] = Unit {0}
HasNoNewline (c ∷ cs) = ((c ≡ 10) → ⊥) × HasNoNewline cs

-- none of the texts has one
abbrev pub HaveNoNewline : List (List ℕ) → Type 0
HaveNoNewline [] = Unit {0}
HaveNoNewline (text ∷ texts) = HasNoNewline text × HaveNoNewline texts

-- the lines, each with its newline
abbrev pub with_newlines : List (List ℕ) → List ℕ
with_newlines [] = []
with_newlines (line ∷ lines) = line ++ (10 ∷ with_newlines lines)

-- Of what was read, the lines that a newline ends were answered, and what comes after them is held.
pub record HasServed (seen : List ℕ) (line : Line) (old new : Option (List ℕ)) : Type 0 where
  pub ended : List (List ℕ)
  pub begun : List ℕ
  pub parts : seen ≡ with_newlines ended ++ begun
  pub plain : HaveNoNewline ended
  pub unended : HasNoNewline begun
  pub held : Holds line begun
  pub written : WritesLines ended old new
