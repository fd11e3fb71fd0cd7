-- Which lines of accepted keys are stale, and what they come to (this project's choice).
use Rattle.std.specs.Prelude.{◌≡◌, ◌≢◌, ◌⊎◌, ◌&&◌, ℕ, Bool, true, false, max, is_some, List, [], ◌∷◌, codes, Option, Some, None, if◌then◌else◌}
use Rattle.clap.specs.Words.{first_value, found_of}
use Rattle.clap.specs.declared.parser.matches.ArgMatches.{ArgMatches}
use Rattle.dsa_recording.specs.declared.accepted.Accepted.{Accepted}
use Rattle.dsa_recording.specs.declared.answer.AuditAnswer.{AuditAnswer}
use Rattle.dsa_recording.specs.declared.answer.AuditFormat.{AuditFormat}
use Rattle.dsa_recording.specs.declared.answer.AuditFormat.TheVariants.{Text, Json, Picture, List as Listed, Keys}
use Rattle.dsa_recording.specs.Uses.{stale_from}
use Rattle.dsa_text.specs.declared.stale.Stale.{Stale}
use Rattle.dsa_text.specs.Audited.{IsFormat, denies_stale}

-- whether a report in this format names the lines that are stale, or counts them
abbrev pub counts_stale : AuditFormat → Bool
counts_stale Text = true
counts_stale Json = true
counts_stale Picture = true
counts_stale Listed = false
counts_stale Keys = false

-- the numbers of the lines that are stale in a run that used these keys, if a file of accepted keys is named and the format
-- counts them; keys of missing waits are looked for if events are named
abbrev pub stale_numbers : ArgMatches → AuditFormat → Accepted → Accepted → List ℕ
stale_numbers m format accepted used =
    if is_some (first_value (found_of m) (codes "accept")) && counts_stale format
    then stale_from 1 (is_some (first_value (found_of m) (codes "events"))) used accepted.lines.items
    else []

-- the status with these lines: at least 1, if they are denied and there are some
abbrev pub stale_status : Bool → List ℕ → ℕ → ℕ
stale_status false numbers status = status
stale_status true [] status = status
stale_status true (n ∷ ns) status = max status 1

-- the status of a run that used these keys, with the lines that are stale
abbrev pub IsRaised : ArgMatches → Accepted → Accepted → ℕ → ℕ → Type 0
IsRaised m accepted used status raised =
    (format : AuditFormat) × IsFormat m format
    × (raised ≡ stale_status (denies_stale m) (stale_numbers m format accepted used) status)

-- an answer with the lines that are stale: a refusal stays as it is, and the status of another is raised
abbrev pub WithStale : ArgMatches → Accepted → AuditAnswer → AuditAnswer → Type 0
WithStale m accepted old new =
    ((old.status ≡ 2) × (new ≡ old)) ⊎ ((old.status ≢ 2) × IsRaised m accepted old.used old.status new.status)

-- ---- for private clauses

-- the lines that are stale, and whether they are denied; or there is no place for them
abbrev pub FindsStale : ArgMatches → Accepted → Accepted → Option Stale → Type 0
FindsStale m accepted used None =
    (format : AuditFormat) × IsFormat m format × (stale_numbers m format accepted used ≡ [])
FindsStale m accepted used (Some s) =
    (format : AuditFormat) × IsFormat m format × (stale_numbers m format accepted used ≡ s.numbers.items)
    × (s.is_denied ≡ denies_stale m)
