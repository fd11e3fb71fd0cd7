-- What the answer of `audit` says.
use Rattle.std.specs.Prelude.{ℕ, ◌≡◌, ◌<◌, ◌⊎◌, true, false, List, [], length, string_bytes}
use Rattle.std.specs.List.{AllByRecursion}
use Rattle.dsa_descriptor.specs.Lists.{entries}
use Rattle.dsa_drawing.specs.Pictures.{IsPicture}
use Rattle.dsa_recording.specs.declared.answer.AuditAnswer.{AuditAnswer}
use Rattle.dsa_recording.specs.declared.answer.AuditFormat.{AuditFormat}
use Rattle.dsa_recording.specs.declared.answer.AuditFormat.TheVariants.{Text, Json, Picture, List as Listed, Keys}
use Rattle.dsa_recording.specs.declared.answer.AuditOptions.{AuditOptions}
use Rattle.dsa_recording.specs.declared.findings.Finding.{Finding}
use Rattle.dsa_recording.specs.declared.report.Report.{Report}
use Rattle.dsa_recording.specs.Pairs.{has_key, terms}
use Rattle.dsa_recording.specs.Reports.{Reported, IsReport, reported_by}
use Rattle.dsa_recording.specs.declared.stream.Submission.{Submission}
use Rattle.dsa_recording.specs.Streams.{ReadsStream}
use Rattle.dsa_recording.specs.Accepted.{IsAccepted}
use Rattle.dsa_recording.specs.Details.{IsPlaced}
use Rattle.dsa_recording.specs.Listings.{listing_text}
use Rattle.dsa_recording.specs.Uses.{AreUsed}
use Rattle.dsa_recording.specs.Words.{is_error, severity_of}

-- of these entries and their report the finding is no error: it is none under the options, or is accepted
abbrev pub IsNoError : AuditOptions → List (List ℕ) → Reported → Finding → Type 0
IsNoError options es r f =
    (is_error (severity_of options.denied f.kind) ≡ false) ⊎ IsAccepted options.accepted.now es r f

-- all findings are no errors
abbrev pub AreNoErrors : AuditOptions → List (List ℕ) → Reported → Type 0
AreNoErrors options es r = AllByRecursion (IsNoError options es r) r.findings

-- the status says that nothing that was found is an error, or that something is
abbrev pub IsStatusOf : AuditOptions → List (List ℕ) → Reported → ℕ → Type 0
IsStatusOf options es r status =
    ((status ≡ 0) × AreNoErrors options es r) ⊎ ((status ≡ 1) × (¬ AreNoErrors options es r))

-- the report on these entries has no picture: it has more than 1,024 submissions, or they are more than 65,536
abbrev pub HasNoPicture : List (List ℕ) → Reported → Type 0
HasNoPicture es r = (1024 < length r.submissions) ⊎ (65536 < length es)

-- there are no entries, and that is denied
abbrev pub IsDeniedNothing : AuditOptions → List (List ℕ) → Type 0
IsDeniedNothing options es = (options.denied.nothing ≡ true) × (es ≡ [])

-- the status of an answer: that of what was found; but 1 if there are no entries and that is denied
abbrev pub IsAnswerStatus : AuditOptions → List (List ℕ) → Reported → ℕ → Type 0
IsAnswerStatus options es r status =
    (IsDeniedNothing options es × (status ≡ 1)) ⊎ ((¬ IsDeniedNothing options es) × IsStatusOf options es r status)

-- no key is used
abbrev pub UsesNone : AuditAnswer → Type 0
UsesNone answer = (key : List ℕ) → has_key answer.used key ≡ false

-- the answer is a refusal: its status is 2, and no key is used
pub record Refuses (answer : AuditAnswer) : Type 0 where
  pub status : answer.status ≡ 2
  pub used : UsesNone answer

-- the answer has its status, and the keys that are used
pub record Judges (options : AuditOptions) (es : List (List ℕ)) (r : Reported) (answer : AuditAnswer) : Type 0 where
  pub status : IsAnswerStatus options es r answer.status
  pub used : AreUsed options es r answer.used

-- the answer is a picture of the report, with the status of the findings
pub record Draws (options : AuditOptions) (es : List (List ℕ)) (r : Reported) (answer : AuditAnswer) : Type 0 where
  pub fits : ¬ HasNoPicture es r
  pub picture : IsPicture (string_bytes answer.text)
  pub judges : Judges options es r answer

-- the answer is the operations as a list to plan; its status says nothing of findings
pub record Lists (es : List (List ℕ)) (r : Reported) (answer : AuditAnswer) : Type 0 where
  pub text : string_bytes answer.text ≡ listing_text es r.submissions r.audits
  pub status : answer.status ≡ 0
  pub used : UsesNone answer

-- the answer of a report: its status is that of the findings; or, of pictures alone, it is refused, and the report has none;
-- of keys the status is 0
abbrev pub AnswersFormat : AuditFormat → AuditOptions → List (List ℕ) → Reported → AuditAnswer → Type 0
AnswersFormat Text options es r answer = Judges options es r answer
AnswersFormat Json options es r answer = Judges options es r answer
AnswersFormat Picture options es r answer = Draws options es r answer ⊎ (Refuses answer × HasNoPicture es r)
AnswersFormat Listed options es r answer = Lists es r answer
AnswersFormat Keys options es r answer = (answer.status ≡ 0) × AreUsed options es r answer.used

-- the same in the format of the options
abbrev pub AnswersReport : AuditOptions → List (List ℕ) → Reported → AuditAnswer → Type 0
AnswersReport options es r answer = AnswersFormat options.format options es r answer

-- the answer of a recording: that of a report on the bytes; or it is refused, and they are no recording
abbrev pub AnswersRecording : AuditOptions → List ℕ → AuditAnswer → Type 0
AnswersRecording options bytes answer =
    ((r : Reported) × IsReport (terms options.accepted.now options.assumptions) bytes r × AnswersReport options (entries bytes) r answer)
    ⊎ (Refuses answer × ((list : List Submission) → ¬ ReadsStream bytes list))

-- ---- for private clauses

-- a report in memory has no picture
abbrev pub IsTooLarge : List (List ℕ) → Report → Type 0
IsTooLarge es r = HasNoPicture es (reported_by r)

-- each finding of the report is of an entry
abbrev pub ArePlaced : List (List ℕ) → Reported → Type 0
ArePlaced es r = AllByRecursion (IsPlaced es r) r.findings
