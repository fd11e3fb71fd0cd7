-- What is answered of a recording with events (this project's choice).
use Rattle.std.specs.Prelude.{ℕ, ◌≡◌, ◌≢◌, ◌⊎◌, List}
use Rattle.dsa_descriptor.specs.Lists.{entries}
use Rattle.dsa_recording.specs.declared.accepted.Accepted.{Accepted}
use Rattle.dsa_recording.specs.declared.answer.AuditAnswer.{AuditAnswer}
use Rattle.dsa_recording.specs.declared.answer.AuditFormat.{AuditFormat}
use Rattle.dsa_recording.specs.declared.answer.AuditFormat.TheVariants.{Text, Json, Picture, List as Listed, Keys}
use Rattle.dsa_recording.specs.declared.stream.Submission.{Submission}
use Rattle.dsa_recording.specs.Answers.{Refuses}
use Rattle.dsa_recording.specs.Streams.{ReadsStream}
use Rattle.dsa_waits.specs.declared.fitting.Found.{Found}
use Rattle.dsa_waits.specs.declared.fitting.WaitsFault.{WaitsFault}
use Rattle.dsa_waits.specs.declared.fitting.WaitsFault.TheVariants.{Memory}
use Rattle.dsa_waits.specs.Fitting.{AreWaits, IsWaitsFault}
use Rattle.dsa_waits.specs.Keys.{AreUsedKeys, NoneIsLeft}

-- the status says that each missing wait is accepted, or that one is not
abbrev pub IsStatusOf : Accepted → List (List ℕ) → List Submission → Found → ℕ → Type 0
IsStatusOf accepted es ss found status =
    ((status ≡ 0) × NoneIsLeft accepted es ss found.course) ⊎ ((status ≡ 1) × (¬ NoneIsLeft accepted es ss found.course))

-- that of a format: of keys it is 0
abbrev pub IsStatusIn : AuditFormat → Accepted → List (List ℕ) → List Submission → Found → ℕ → Type 0
IsStatusIn Text accepted es ss found status = IsStatusOf accepted es ss found status
IsStatusIn Json accepted es ss found status = IsStatusOf accepted es ss found status
IsStatusIn Picture accepted es ss found status = IsStatusOf accepted es ss found status
IsStatusIn Listed accepted es ss found status = IsStatusOf accepted es ss found status
IsStatusIn Keys accepted es ss found status = status ≡ 0

-- the same, of the status of what was found
abbrev pub status_in : AuditFormat → ℕ → ℕ
status_in Text status = status
status_in Json status = status
status_in Picture status = status
status_in Listed status = status
status_in Keys status = 0

-- the events fit no recording of these entries
abbrev pub HasFault : List (List ℕ) → List Submission → List ℕ → Type 0
HasFault es ss text = (fault : WaitsFault) × (fault ≢ Memory) × IsWaitsFault es ss text fault

-- the answer: that of the waits; or it is refused, and the bytes are no recording, or the text has no events that fit it
abbrev pub AnswersWaits : AuditFormat → Accepted → List ℕ → List ℕ → AuditAnswer → Type 0
AnswersWaits format accepted bytes text a =
    ((ss : List Submission) × ReadsStream bytes ss
    × (((found : Found) × AreWaits accepted (entries bytes) ss text found × IsStatusIn format accepted (entries bytes) ss found a.status
    × AreUsedKeys accepted (entries bytes) ss found.course a.used)
    ⊎ (Refuses a × HasFault (entries bytes) ss text)))
    ⊎ (Refuses a × ((ss : List Submission) → ¬ ReadsStream bytes ss))
