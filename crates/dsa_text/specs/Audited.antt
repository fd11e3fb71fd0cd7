-- What `audit` answers to an input and options (this project's choice).
use Rattle.std.specs.Prelude.{◌≡◌, ◌⊎◌, ◌==◌, ◌+◌, nat_lt, ℕ, Bool, false, List, [], ◌∷◌, length, codes, Option, Some, None, Result, Ok, Err, option_map, if◌then◌else◌}
use Rattle.std.specs.List.{count_by, slice_split}
use Rattle.std.specs.Io.KnownBytes.{Consumes, IsAtEnd}
use Rattle.std.specs.Str.{bytes_eq}
use Rattle.clap.specs.Words.{first_value, found_of}
use Rattle.clap.specs.declared.parser.matches.ArgMatches.{ArgMatches}
use Rattle.dsa_settings.specs.Settings.{Limits}
use Rattle.dsa_recording.specs.declared.answer.AuditAnswer.{AuditAnswer}
use Rattle.dsa_recording.specs.declared.answer.AuditFormat.{AuditFormat}
use Rattle.dsa_recording.specs.declared.answer.AuditFormat.TheVariants.{Text, Json, Picture, List as Listed, Keys}
use Rattle.dsa_recording.specs.declared.assumptions.Await.{Await}
use Rattle.dsa_recording.specs.declared.assumptions.Await.TheVariants.{Writes, Signals, Batches}
use Rattle.dsa_recording.specs.declared.words.Denied.{Denied}
use Rattle.dsa_recording.specs.declared.answer.AuditOptions.{AuditOptions}
use Rattle.dsa_recording.specs.declared.dumps.Dump.{Dump}
use Rattle.dsa_recording.specs.declared.reading.ReadFault.{ReadFault}
use Rattle.dsa_recording.specs.Dumps.{AnswersStaged}
use Rattle.dsa_recording.specs.Inputs.{AnswersInput}
use Rattle.dsa_text.specs.declared.auditing.Given.{Given}
use Rattle.dsa_advice.specs.declared.settings.SettingsWords.{SettingsWords}
use Rattle.dsa_advice.specs.SettingsWords.{GivesSettings}
use Rattle.dsa_text.specs.Options.{IsFlag, word_of}

-- ---- the findings that count as errors

-- how many of the words are this name
abbrev pub times_named : List ℕ → List (List ℕ) → ℕ
times_named name words = count_by (λ word. bytes_eq word name) words

-- how many of the words are names of findings that can be denied
abbrev pub findings_named : List (List ℕ) → ℕ
findings_named words =
    times_named (codes "needless") words + times_named (codes "guarding") words + times_named (codes "signalling") words
    + times_named (codes "unseen") words + times_named (codes "waits") words + times_named (codes "stale") words
    + times_named (codes "nothing") words

-- the findings that words name, if each word names some; missing waits are always errors
abbrev pub denied_by : List (List ℕ) → Option Denied
denied_by words =
    if findings_named words == length words
    then Some (record {
      needless = nat_lt 0 (times_named (codes "needless") words);
      guarding = nat_lt 0 (times_named (codes "guarding") words);
      signalling = nat_lt 0 (times_named (codes "signalling") words);
      unseen = nat_lt 0 (times_named (codes "unseen") words);
      nothing = nat_lt 0 (times_named (codes "nothing") words);
    })
    else None

-- the findings of the option's value, names with commas between; no finding without the option
abbrev pub denied_of : Option (List ℕ) → Option Denied
denied_of None = Some (record { needless = false; guarding = false; signalling = false; unseen = false; nothing = false })
denied_of (Some names) = denied_by (slice_split (λ c. c == 44) names)

-- the findings that the option `deny` names
abbrev pub denied_in : ArgMatches → Option Denied
denied_in m = denied_of (first_value (found_of m) (codes "deny"))

-- whether the option's value names stale lines
abbrev pub denies_stale_of : Option (List ℕ) → Bool
denies_stale_of None = false
denies_stale_of (Some names) = nat_lt 0 (times_named (codes "stale") (slice_split (λ c. c == 44) names))

-- whether the option `deny` does
abbrev pub denies_stale : ArgMatches → Bool
denies_stale m = denies_stale_of (first_value (found_of m) (codes "deny"))

-- ---- what is assumed of the software

-- what a word says that the software looks at
abbrev pub awaited_by : List ℕ → Option Await
awaited_by word =
    if bytes_eq word (codes "writes") then Some Writes else
    if bytes_eq word (codes "signals") then Some Signals else
    if bytes_eq word (codes "batches") then Some Batches else None

-- what the option `await` says
abbrev pub awaited_in : ArgMatches → Option Await
awaited_in m = awaited_by (word_of m (codes "await"))

-- ---- the form of the report, and the settings

-- the format that flags ask for: JSON, a picture, a list, the keys of errors; else text
abbrev pub format_of : Bool → Bool → Bool → Bool → AuditFormat
format_of json svg list keys =
    if json then Json else (if svg then Picture else (if list then Listed else (if keys then Keys else Text)))

-- it is the format of the given options
abbrev pub IsFormat : ArgMatches → AuditFormat → Type 0
IsFormat m format =
    (json svg list keys : Bool) × IsFlag m (codes "json") json × IsFlag m (codes "svg") svg × IsFlag m (codes "list") list
    × IsFlag m (codes "write-accept") keys × (format ≡ format_of json svg list keys)

-- each word is the value of the option of its name; an audit has no option of the staging area
pub record AreAuditWords (m : ArgMatches) (w : SettingsWords) : Type 0 where
  pub greatest_batch : w.greatest_batch.now ≡ word_of m (codes "greatest-batch")
  pub greatest_transfer : w.greatest_transfer.now ≡ word_of m (codes "greatest-transfer")
  pub lone : w.lone.now ≡ word_of m (codes "lone")
  pub batch : w.batch.now ≡ word_of m (codes "batch")
  pub batches : option_map (λ word. word.now) w.batches ≡ first_value (found_of m) (codes "batches")
  pub fence : w.fence.now ≡ word_of m (codes "fence")
  pub staging : w.staging.now ≡ codes "0"

-- ---- the answer

-- the answer for a recording; or, if there are dumps of memory, for what was written to a portal
abbrev pub AnswersWith : AuditOptions → List Dump → List ℕ → AuditAnswer → Type 0
AnswersWith options [] input a = AnswersInput options input a
AnswersWith options (d ∷ ds) input a = AnswersStaged options (d ∷ ds) input a

-- status 2 if the options spell no settings; else the answer to the input in the form that they name
pub data AuditsWithOptions (m : ArgMatches) (g : Given) (denied : Denied) (awaited : Await) (input : List ℕ) (a : AuditAnswer) : Type 0 where
  spells_none :
      (w : SettingsWords) → AreAuditWords m w → GivesSettings w None → a.status ≡ 2 →
      AuditsWithOptions m g denied awaited input a
  spells_settings :
      (w : SettingsWords) (s : Limits) (o : AuditOptions) → AreAuditWords m w → GivesSettings w (Some s) →
      IsFormat m o.format → IsFlag m (codes "all") o.every → o.denied ≡ denied → o.accepted.now ≡ g.accepted.now →
      o.assumptions.awaited ≡ awaited → IsFlag m (codes "resident") o.assumptions.resident →
      AnswersWith o g.dumps.now input a → AuditsWithOptions m g denied awaited input a

-- status 2 if the option of what counts as an error, or the one of what software looks at, names something else
abbrev pub AuditsAssuming : Option Denied → Option Await → ArgMatches → Given → List ℕ → AuditAnswer → Type 0
AuditsAssuming None awaited m g input a = a.status ≡ 2
AuditsAssuming (Some denied) None m g input a = a.status ≡ 2
AuditsAssuming (Some denied) (Some awaited) m g input a = AuditsWithOptions m g denied awaited input a

-- the answer to an input
abbrev pub AuditsInput : ArgMatches → Given → List ℕ → AuditAnswer → Type 0
AuditsInput m g input a = AuditsAssuming (denied_in m) (awaited_in m) m g input a

-- the arguments mean these options: they have the accepted keys, and what answers an input with them is the answer of `audit`
pub record SettleWith (m : ArgMatches) (g : Given) (denied : Denied) (awaited : Await) (o : AuditOptions) : Type 0 where
  pub accepted : o.accepted.now ≡ g.accepted.now
  pub answers : (input : List ℕ) (a : AuditAnswer) → AnswersWith o g.dumps.now input a → AuditsWithOptions m g denied awaited input a

-- the same, whatever is denied and awaited
pub record Settle (m : ArgMatches) (g : Given) (o : AuditOptions) : Type 0 where
  pub accepted : o.accepted.now ≡ g.accepted.now
  pub answers : (input : List ℕ) (a : AuditAnswer) → AnswersWith o g.dumps.now input a → AuditsInput m g input a

-- the arguments are refused with this answer, whatever the input is
abbrev pub RefusesWith : ArgMatches → Given → Denied → Await → AuditAnswer → Type 0
RefusesWith m g denied awaited a = (input : List ℕ) → AuditsWithOptions m g denied awaited input a

-- the same, whatever is denied and awaited
abbrev pub Refuses : ArgMatches → Given → AuditAnswer → Type 0
Refuses m g a = (input : List ℕ) → AuditsInput m g input a

-- ---- what is read

-- the answer to all that the reader gave up to its end; or to any input, without reading
abbrev pub AuditsReader : ArgMatches → Given → Option (List ℕ) → Option (List ℕ) → Result AuditAnswer ReadFault → Type 0
AuditsReader m g old new (Ok a) =
    ((input : List ℕ) × Consumes old new input × IsAtEnd new × AuditsInput m g input a) ⊎ Refuses m g a
AuditsReader m g old new (Err fault) = Unit
