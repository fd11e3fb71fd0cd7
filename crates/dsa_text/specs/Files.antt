-- What `audit` of several files answers (this project's choice). `Answers` says which answers there are to an input.
use Rattle.std.specs.Prelude.{◌≡◌, ◌↔◌, ◌⊎◌, ◌<◌, ◌==◌, max, ℕ, true, List, [], ◌∷◌, ◌++◌, length, map, codes, decimal, Option}
use Rattle.std.specs.List.{AllByRecursion, count_by}
use Rattle.std.specs.Io.KnownBytes.{Consumes, IsAtEnd}
use Rattle.clap.specs.declared.parser.matches.ArgMatches.{ArgMatches}
use Rattle.dsa_recording.specs.declared.accepted.Accepted.{Accepted}
use Rattle.dsa_recording.specs.declared.answer.AuditAnswer.{AuditAnswer}
use Rattle.dsa_recording.specs.declared.answer.AuditOptions.{AuditOptions}
use Rattle.dsa_recording.specs.Inputs.{AnswersInput}
use Rattle.dsa_recording.specs.Pairs.{has_key}
use Rattle.dsa_text.specs.Audited.{times_named}
use Rattle.dsa_text.specs.Options.{IsGiven}
use Rattle.dsa_text.specs.Stale.{IsRaised}

-- an option is given that goes with a single file only
abbrev pub TakesOneFile : ArgMatches → Type 0
TakesOneFile m =
    (IsGiven m (codes "svg") ⊎ IsGiven m (codes "list")) ⊎ (IsGiven m (codes "staging") ⊎ IsGiven m (codes "events"))

-- several names are refused with such an option, and if standard input is named twice
abbrev pub AreRefusedTogether : ArgMatches → List (List ℕ) → Type 0
AreRefusedTogether m names = (1 < length names) × (TakesOneFile m ⊎ (1 < times_named (codes "-") names))

-- the answer to all that the reader of a file gave up to its end; or status 2
abbrev pub AnswersFile : AuditOptions → Option (List ℕ) → Option (List ℕ) → AuditAnswer → Type 0
AnswersFile options old new a =
    (a.status ≡ 2) ⊎ ((input : List ℕ) × Consumes old new input × IsAtEnd new × AnswersInput options input a)

-- an answer to what a file has; or status 2, if the file can't be opened or read
abbrev pub IsFileAnswer : (List ℕ → AuditAnswer → Type 0) → AuditAnswer → Type 0
IsFileAnswer Answers a = (a.status ≡ 2) ⊎ ((input : List ℕ) × Answers input a)

-- the key is used in one of the answers
abbrev pub UsesSome : List AuditAnswer → List ℕ → Type 0
UsesSome [] key = ⊥
UsesSome (a ∷ answers) key = (has_key a.used key ≡ true) ⊎ UsesSome answers key

-- the statuses of so many files, and the keys that are used in them
pub record AreFileAnswers (Answers : List ℕ → AuditAnswer → Type 0) (files : ℕ) (statuses : List ℕ) (used : Accepted) : Type 0 where
  pub answers : List AuditAnswer
  pub count : length answers ≡ files
  pub each : AllByRecursion (IsFileAnswer Answers) answers
  pub statuses_are : statuses ≡ map (λ a. a.status) answers
  pub used_are : (key : List ℕ) → (has_key used key ≡ true) ↔ UsesSome answers key

-- the greatest status, 0 if there is none
abbrev pub greatest : List ℕ → ℕ
greatest [] = 0
greatest (status ∷ statuses) = max status (greatest statuses)

-- the status for so many files is the greatest of theirs, or 1 if that is 0 and lines that are stale in all of them are denied;
-- or 2, if the options are refused or a report can't be written
abbrev pub AuditsFiles : ArgMatches → Accepted → (List ℕ → AuditAnswer → Type 0) → ℕ → ℕ → Type 0
AuditsFiles m accepted Answers files status =
    (status ≡ 2)
    ⊎ ((statuses : List ℕ) × (used : Accepted) × AreFileAnswers Answers files statuses used
    × IsRaised m accepted used (greatest statuses) status)

-- the last line: how many files there are, how many of them have errors, and how many are refused
abbrev pub summary_words : List ℕ → List ℕ
summary_words statuses =
    decimal (length statuses) ++ (codes " files: " ++ (decimal (count_by (λ s. s == 1) statuses) ++ (codes " with errors, "
    ++ (decimal (count_by (λ s. s == 2) statuses) ++ codes " refused\n"))))
