-- A recording that comes in parts, each of whole submissions (this project's choice).
use Rattle.std.specs.Prelude.{ℕ, ◌≡◌, ◌+◌, ◌≤◌, ◌⊎◌, max, Bool, false, IsTrue, List, ◌++◌, length, take, Option, Some, None, Result, Ok, Err}
use Rattle.std.specs.Io.KnownBytes.{Consumes, IsAtEnd}
use Rattle.dsa_descriptor.specs.Lists.{entries}
use Rattle.dsa_recording.specs.declared.accepted.Accepted.{Accepted}
use Rattle.dsa_recording.specs.declared.answer.AuditAnswer.{AuditAnswer}
use Rattle.dsa_recording.specs.declared.answer.AuditFormat.{AuditFormat}
use Rattle.dsa_recording.specs.declared.answer.AuditFormat.TheVariants.{Text, Json, Picture, List as Listed, Keys}
use Rattle.dsa_recording.specs.declared.answer.AuditOptions.{AuditOptions}
use Rattle.dsa_recording.specs.declared.foreign.Foreign.{Foreign}
use Rattle.dsa_recording.specs.declared.parts.Parts.{Parts}
use Rattle.dsa_recording.specs.declared.reading.ReadFault.{ReadFault}
use Rattle.dsa_recording.specs.declared.reading.ReadFault.TheVariants.{Failed, TooLong, Memory}
use Rattle.dsa_recording.specs.Answers.{IsStatusOf}
use Rattle.dsa_recording.specs.Foreign.{HasOwnMembers, LacksMembers}
use Rattle.dsa_forms.specs.Forms.{IsText}
use Rattle.dsa_recording.specs.Inputs.{AnswersInput}
use Rattle.dsa_recording.specs.Pairs.{terms}
use Rattle.dsa_recording.specs.Reports.{IsReport, Reported}
use Rattle.dsa_recording.specs.Uses.{AddsKeys, AreUsed, IsUsed}

-- the most bytes of a recording that is read as a whole, 64 MiB (this project's choice)
abbrev pub longest_recording : ℕ
longest_recording = 67108864

-- a recording of bytes is audited in parts for the format
abbrev pub IsStreamed : AuditFormat → Type 0
IsStreamed Text = Unit
IsStreamed Json = Unit
IsStreamed Picture = ⊥
IsStreamed Listed = ⊥
IsStreamed Keys = Unit

-- what begins so is read as a whole: bytes to draw or to list, and a text, of which the first MiB is looked at
abbrev pub IsReadWhole : AuditOptions → List ℕ → Type 0
IsReadWhole options bytes = (¬ IsStreamed options.format) ⊎ IsText (take 1048576 bytes)

-- what a reading came to: the answer to all that the reader gave up to its end; or it gave too much for a whole; or it
-- failed, or memory ran out
abbrev pub AnswersRead : AuditOptions → Option (List ℕ) → Option (List ℕ) → Result AuditAnswer ReadFault → Type 0
AnswersRead options old new (Ok answer) =
    (input : List ℕ) × Consumes old new input × IsAtEnd new × AnswersInput options input answer
AnswersRead options old new (Err Failed) = Unit
AnswersRead options old new (Err TooLong) =
    (bytes : List ℕ) × Consumes old new bytes × (length bytes ≡ longest_recording + 1) × IsReadWhole options bytes
AnswersRead options old new (Err Memory) = Unit

-- the bytes are a recording, and this is the status of its report
pub record HasStatus (options : AuditOptions) (bytes : List ℕ) (status : ℕ) : Type 0 where
  pub report : Reported
  pub is_report : IsReport (terms options.accepted.now options.assumptions) bytes report
  pub is_status : IsStatusOf options (entries bytes) report status

-- ---- for private clauses

-- the bytes are a recording, and these are the status of its report and the keys that are used in it
pub record HasOutcome (options : AuditOptions) (bytes : List ℕ) (status : ℕ) (used : Accepted) : Type 0 where
  pub report : Reported
  pub is_report : IsReport (terms options.accepted.now options.assumptions) bytes report
  pub is_status : IsStatusOf options (entries bytes) report status
  pub are_used : AreUsed options (entries bytes) report used

-- a part raises the status to its own, and adds its keys to those that are used
pub record HasOutcomeAfter (options : AuditOptions) (part : List ℕ) (old new : ℕ) (used more : Accepted) : Type 0 where
  pub report : Reported
  pub is_report : IsReport (terms options.accepted.now options.assumptions) part report
  pub own : ℕ
  pub is_status : IsStatusOf options (entries part) report own
  pub greater : new ≡ max old own
  pub adds : AddsKeys (IsUsed options (entries part) report) used more

-- no entry is foreign so far, and these are the status and the keys that are used; or some entry is
abbrev pub IsSoFarBy : Option Foreign → AuditOptions → List ℕ → ℕ → Accepted → Type 0
IsSoFarBy None options bytes status used = HasOwnMembers bytes × HasOutcome options bytes status used
IsSoFarBy (Some foreign) options bytes status used = LacksMembers bytes

-- the parts of these bytes came to this
abbrev pub IsSoFar : AuditOptions → List ℕ → Parts → Type 0
IsSoFar options bytes parts = IsSoFarBy parts.foreign options bytes parts.status parts.used

-- what filling a buffer came to: it has so many bytes more, and if it is not full the reader has ended
abbrev pub Fills : Option (List ℕ) → Option (List ℕ) → List ℕ → List ℕ → ℕ → Result Bool ReadFault → Type 0
Fills old new buffer filled most (Ok ended) =
    (more : List ℕ) × Consumes old new more × (filled ≡ buffer ++ more)
    × (IsTrue ended → IsAtEnd new) × (ended ≡ false → most ≤ length filled) × (length filled ≤ max most (length buffer))
Fills old new buffer filled most (Err fault) = (fault ≡ Failed) ⊎ (fault ≡ Memory)

-- the same as of a reading, of a recording that begins with these bytes
abbrev pub AnswersAfter : AuditOptions → List ℕ → Option (List ℕ) → Option (List ℕ) → Result AuditAnswer ReadFault → Type 0
AnswersAfter options first old new (Ok answer) =
    (more : List ℕ) × Consumes old new more × IsAtEnd new × AnswersInput options (first ++ more) answer
AnswersAfter options first old new (Err fault) = (fault ≡ Failed) ⊎ (fault ≡ Memory)

-- the same where it is read as a whole, so that it may be too long
abbrev pub AnswersWhole : AuditOptions → List ℕ → Option (List ℕ) → Option (List ℕ) → Result AuditAnswer ReadFault → Type 0
AnswersWhole options first old new (Ok answer) =
    (more : List ℕ) × Consumes old new more × IsAtEnd new × AnswersInput options (first ++ more) answer
AnswersWhole options first old new (Err Failed) = Unit
AnswersWhole options first old new (Err TooLong) =
    (more : List ℕ) × Consumes old new more × (length (first ++ more) ≡ longest_recording + 1)
AnswersWhole options first old new (Err Memory) = Unit
