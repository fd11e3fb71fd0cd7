-- What explaining a recording answers (this project's choice).
use Rattle.std.specs.Prelude.{◌≡◌, ◌≢◌, ℕ, false, List, string_bytes}
use Rattle.dsa_settings.specs.Settings.{Limits}
use Rattle.dsa_recording.specs.declared.answer.AuditAnswer.{AuditAnswer}
use Rattle.dsa_recording.specs.declared.answer.AuditFormat.TheVariants.{List as Listed}
use Rattle.dsa_recording.specs.declared.answer.AuditOptions.{AuditOptions}
use Rattle.dsa_recording.specs.declared.assumptions.Await.TheVariants.{Writes}
use Rattle.dsa_recording.specs.Foreign.{AnswersEntries}
use Rattle.dsa_recording.specs.Pairs.{has_key}
use Rattle.dsa_advice.specs.declared.answer.Answer.{Answer}
use Rattle.dsa_advice.specs.declared.form.Form.{Form}
use Rattle.dsa_advice.specs.Explained.{ExplainsText}

-- the options of `audit --list` without others, but for those that no list depends on
pub record AreListOptions (o : AuditOptions) : Type 0 where
  pub format : o.format ≡ Listed
  pub accepted : (key : List ℕ) → has_key o.accepted.now key ≡ false
  pub awaited : o.assumptions.awaited ≡ Writes
  pub resident : o.assumptions.resident ≡ false

-- the answer of `audit --list` to the bytes of a recording
abbrev pub ListsRecording : List ℕ → AuditAnswer → Type 0
ListsRecording bytes listed = (o : AuditOptions) × AreListOptions o × AnswersEntries o bytes listed

-- refused if the audit refuses the recording, with its reason; else the answer for the text that the audit lists
pub data ExplainsRecording (bytes : List ℕ) (s : Limits) (form : Form) (a : Answer) : Type 0 where
  is_refused_audit :
      (listed : AuditAnswer) → ListsRecording bytes listed → listed.status ≡ 2 → a.status ≡ 1 → a.text ≡ listed.text →
      ExplainsRecording bytes s form a
  is_audited :
      (listed : AuditAnswer) → ListsRecording bytes listed → listed.status ≢ 2 → ExplainsText (string_bytes listed.text) false s form a →
      ExplainsRecording bytes s form a
