-- What bytes an input spells, and what `audit` answers of it (this project's choice).
use Rattle.std.specs.Prelude.{ℕ, ◌≡◌, ◌⊎◌, false, List, None}
use Rattle.dsa_lines.specs.Texts.{lines_of}
use Rattle.dsa_lines.specs.Recordings.{LinesSpell}
use Rattle.dsa_recording.specs.declared.answer.AuditAnswer.{AuditAnswer}
use Rattle.dsa_recording.specs.declared.answer.AuditOptions.{AuditOptions}
use Rattle.dsa_recording.specs.Answers.{Refuses}
use Rattle.dsa_forms.specs.Forms.{IsText, SpellsBytes, begins_with_digits, form_of}
use Rattle.dsa_recording.specs.Foreign.{AnswersEntries}

-- the input is in lines: a text that has none of the forms of digits, and its first word has other characters
pub record IsInLines (input : List ℕ) : Type 0 where
  pub text : IsText input
  pub formless : form_of input ≡ None
  pub words : begins_with_digits input ≡ false

-- an input spells its own bytes where it is no text; those of its lines where it is in lines; else those of its digits
pub data SpellsRecording (input bytes : List ℕ) : Type 0 where
  as_it_stands : ¬ IsText input → bytes ≡ input → SpellsRecording input bytes
  in_lines : IsInLines input → LinesSpell (lines_of input) bytes → SpellsRecording input bytes
  in_digits : IsText input → SpellsBytes input bytes → SpellsRecording input bytes

-- an input spells one recording at most
abbrev pub OneRecording : Type 0
OneRecording =
    (input bytes other : List ℕ) → SpellsRecording input bytes → SpellsRecording input other → bytes ≡ other

-- the answer is a refusal, and the input spells no recording
abbrev pub IsRefused : List ℕ → AuditAnswer → Type 0
IsRefused input answer = Refuses answer × ((bytes : List ℕ) → ¬ SpellsRecording input bytes)

-- the answer of an input: that of the bytes that it spells; or it is refused
abbrev pub AnswersInput : AuditOptions → List ℕ → AuditAnswer → Type 0
AnswersInput options input answer =
    ((bytes : List ℕ) × SpellsRecording input bytes × AnswersEntries options bytes answer) ⊎ IsRefused input answer
