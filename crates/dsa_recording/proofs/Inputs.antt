-- What an input spells, and what it does not.
use Rattle.std.proofs.Common.{ℕ, ◌≡◌, ◌≢◌, List, inl, inr, sym, subst, ◌∙◌, Option, Some, None, Result, Ok, Err}
use Rattle.std.specs.Prelude.{IfOk}
use Rattle.hex.specs.Hex.{decode_of}
use Rattle.dsa_lines.specs.declared.fault.TextFault.{TextFault}
use Rattle.dsa_lines.specs.declared.fault.TextFault.TheVariants.{Memory}
use Rattle.dsa_lines.specs.Texts.{lines_of}
use Rattle.dsa_lines.specs.Recordings.{IsRecordingFault}
use Rattle.dsa_lines.proofs.RecordingLemmas.{spells_none, one_spelled}
use Rattle.dsa_recording.specs.declared.answer.AuditAnswer.{AuditAnswer}
use Rattle.dsa_recording.specs.declared.answer.AuditOptions.{AuditOptions}
use Rattle.dsa_forms.specs.declared.forms.Form.{Form}
use Rattle.dsa_forms.specs.Forms.{IsText, SpellsBytes, SpellsNone, form_of, digits_of}
use Rattle.dsa_recording.specs.Foreign.{AnswersEntries}
use Rattle.dsa_recording.specs.Inputs.{IsInLines, SpellsRecording, OneRecording, AnswersInput}
use Rattle.dsa_recording.specs.Inputs.SpellsRecording.{as_it_stands, in_lines, in_digits}

-- a text in lines has no form
formless : (text bytes : List ℕ) → IsInLines text → ¬ SpellsBytes text bytes
formless text bytes l (form, is, e) = let never : Some form ≡ None = sym is ∙ l.formless in absurd cc

same_form : (form other : Form) (o : Option Form) → o ≡ Some form → o ≡ Some other → form ≡ other
same_form form other o e f = let same : Some form ≡ Some other = sym e ∙ f in cc

-- its digits spell one
one_of_digits : (text bytes other : List ℕ) → SpellsBytes text bytes → SpellsBytes text other → bytes ≡ other
one_of_digits text bytes other (form, is, e) (form', is', e') =
    let forms = same_form form form' (form_of text) is is' in
    let here : decode_of (digits_of form' text) ≡ Ok bytes = subst (λ (f : Form). decode_of (digits_of f text) ≡ Ok bytes) forms e in
    cc

pub one_recording : OneRecording
one_recording input bytes other (as_it_stands other_kind e) (as_it_stands others f) = e ∙ sym f
one_recording input bytes other (as_it_stands other_kind e) (in_lines l f) = absurd (other_kind l.text)
one_recording input bytes other (as_it_stands other_kind e) (in_digits text f) = absurd (other_kind text)
one_recording input bytes other (in_lines l e) (as_it_stands other_kind f) = absurd (other_kind l.text)
one_recording input bytes other (in_lines l e) (in_lines l' f) = one_spelled (lines_of input) bytes other e f
one_recording input bytes other (in_lines l e) (in_digits text f) = absurd (formless input other l f)
one_recording input bytes other (in_digits text e) (as_it_stands other_kind f) = absurd (other_kind text)
one_recording input bytes other (in_digits text e) (in_lines l f) = absurd (formless input bytes l e)
one_recording input bytes other (in_digits text e) (in_digits text' f) = one_of_digits input bytes other e f

-- the answer of the bytes is that of the input that spells them
pub of_bytes : {E : Type 0} (r : Result AuditAnswer E) (options : AuditOptions) (input bytes : List ℕ)
    → SpellsRecording input bytes → IfOk r (AnswersEntries options bytes) → IfOk r (AnswersInput options input)
of_bytes (Ok x) options input bytes s ok = inl (bytes, s, ok)
of_bytes (Err e) options input bytes s ok = tt

-- ---- refusals

lines_not : (text bytes : List ℕ) (fault : TextFault) → IsInLines text → fault ≢ Memory → IsRecordingFault (lines_of text) fault
    → ¬ SpellsRecording text bytes
lines_not text bytes fault l unlike stands (as_it_stands other_kind e) = other_kind l.text
lines_not text bytes fault l unlike stands (in_lines l' e) =
    elim (spells_none (lines_of text) fault stands) [ inl memory ↦ unlike memory | inr none ↦ none bytes e ]
lines_not text bytes fault l unlike stands (in_digits t e) = formless text bytes l e

pub no_lines : (text : List ℕ) (fault : TextFault) → IsInLines text → fault ≢ Memory → IsRecordingFault (lines_of text) fault
    → (bytes : List ℕ) → ¬ SpellsRecording text bytes
no_lines text fault l unlike stands = λ bytes. lines_not text bytes fault l unlike stands

ok_is_no_err : {A B : Type 0} (x : A) (y : B) (r : Result A B) → r ≡ Ok x → r ≡ Err y → ⊥
ok_is_no_err x y r e f = let never : Ok x ≡ Err y = sym e ∙ f in absurd cc

not_spelled : (text bytes : List ℕ) → SpellsNone text → ¬ SpellsBytes text bytes
not_spelled text bytes (inl none) (form, is, e) = let never : Some form ≡ None = sym is ∙ none in absurd cc
not_spelled text bytes (inr (form', fault, is', f)) (form, is, e) =
    let forms = same_form form' form (form_of text) is' is in
    ok_is_no_err bytes fault (decode_of (digits_of form text)) e (subst (λ (g : Form). decode_of (digits_of g text) ≡ Err fault) forms f)

pub no_digits : (text : List ℕ) → IsText text → ¬ IsInLines text → SpellsNone text → (bytes : List ℕ) → ¬ SpellsRecording text bytes
no_digits text is outside none bytes (as_it_stands other_kind e) = other_kind is
no_digits text is outside none bytes (in_lines l e) = outside l
no_digits text is outside none bytes (in_digits t e) = not_spelled text bytes none e
