-- What `audit --events` answers (this project's choice).
use Rattle.std.specs.Prelude.{ℕ, ◌≡◌, ◌≢◌, ◌↔◌, ◌⊎◌, ◌==◌, true, List, max, if◌then◌else◌}
use Rattle.clap.specs.declared.parser.matches.ArgMatches.{ArgMatches}
use Rattle.dsa_recording.specs.declared.accepted.Accepted.{Accepted}
use Rattle.dsa_recording.specs.declared.answer.AuditAnswer.{AuditAnswer}
use Rattle.dsa_recording.specs.declared.answer.AuditFormat.{AuditFormat}
use Rattle.dsa_recording.specs.Pairs.{has_key}
use Rattle.dsa_forms.specs.Forms.{IsText, SpellsBytes, SpellsNone}
use Rattle.dsa_text.specs.declared.auditing.Given.{Given}
use Rattle.dsa_text.specs.Audited.{AuditsInput, IsFormat}
use Rattle.dsa_waits.specs.Answered.{AnswersWaits}

-- the missing waits of the bytes, or of those that a text of digits spells; status 2 if it spells none
abbrev pub AnswersEvents : AuditFormat → Accepted → List ℕ → List ℕ → AuditAnswer → Type 0
AnswersEvents format accepted input events a =
    ((¬ IsText input) × AnswersWaits format accepted input events a)
    ⊎ (((bytes : List ℕ) × SpellsBytes input bytes × AnswersWaits format accepted bytes events a)
    ⊎ ((a.status ≡ 2) × SpellsNone input))

-- the status of a report and of missing waits after it
abbrev pub joined_status : ℕ → ℕ → ℕ
joined_status report waits = if waits == 2 then 2 else max report waits

-- the answer of a report and of missing waits after it: the status of both, and, unless the waits are refused, the keys that
-- are used in either
pub record IsJoined (report waits a : AuditAnswer) : Type 0 where
  pub status : a.status ≡ joined_status report.status waits.status
  pub used :
      waits.status ≢ 2 →
      (key : List ℕ) → (has_key a.used key ≡ true) ↔ ((has_key report.used key ≡ true) ⊎ (has_key waits.used key ≡ true))

-- the status of the report, if that is 2; else what both come to, in the format of the options
abbrev pub AuditsEvents : ArgMatches → Given → List ℕ → List ℕ → AuditAnswer → Type 0
AuditsEvents m g input events a =
    (report : AuditAnswer) × AuditsInput m g input report
    × (((report.status ≡ 2) × (a.status ≡ 2))
    ⊎ ((format : AuditFormat) × (waits : AuditAnswer) × IsFormat m format
    × AnswersEvents format g.accepted.now input events waits × IsJoined report waits a))
