-- What is written for jobs: their lines, in order.
use Rattle.std.specs.Prelude.{◌≡◌, ℕ, ◌<◌, List, [], ◌∷◌, ◌++◌, length, take, Option}
use Rattle.std.specs.Io.KnownBytes.{Appends}
use Rattle.dsa_report.specs.Answer.{Answer}

-- the bytes are lines that answer these texts one after another, each with the status of an answer or of a refusal
abbrev pub AnswersEach : List (List ℕ) → List ℕ → Type 0
AnswersEach [] bytes = bytes ≡ []
AnswersEach (text ∷ texts) bytes =
    (line : List ℕ) × (status : ℕ) × (later : List ℕ) × Answer text line status × AnswersEach texts later × (bytes ≡ line ++ later)

-- the known bytes have grown by such lines
abbrev pub WritesLines : List (List ℕ) → Option (List ℕ) → Option (List ℕ) → Type 0
WritesLines texts old new = (bytes : List ℕ) × AnswersEach texts bytes × Appends old new bytes

-- the known bytes have grown by a part of the lines that answer the first of these texts, from their start, that isn't the
-- whole
abbrev pub WritesPart : List (List ℕ) → Option (List ℕ) → Option (List ℕ) → Type 0
WritesPart texts old new =
    (first later : List (List ℕ)) × (bytes : List ℕ) × (n : ℕ) × (texts ≡ first ++ later) × AnswersEach first bytes × (n < length bytes)
    × Appends old new (take n bytes)
