-- Which events fit a recording, and what is found of both (this project's choice).
use Rattle.std.specs.Prelude.{ℕ, ◌≡◌, ◌<◌, ◌==◌, nat_lt, not, List, [], ◌∷◌, length, map, get_or, Option, Some, None, if◌then◌else◌}
use Rattle.dsa_descriptor.specs.Places.{code_at}
use Rattle.dsa_audit.specs.Steps.{AreLasts}
use Rattle.dsa_recording.specs.declared.accepted.Accepted.{Accepted}
use Rattle.dsa_recording.specs.declared.stream.Submission.{Submission}
use Rattle.dsa_recording.specs.Submissions.{head_at}
use Rattle.dsa_waits.specs.declared.event.Event.{Event}
use Rattle.dsa_waits.specs.declared.event.Event.TheVariants as event
use Rattle.dsa_waits.specs.declared.event.Queue.{Queue}
use Rattle.dsa_waits.specs.declared.fitting.Found.{Found}
use Rattle.dsa_waits.specs.declared.fitting.Misfit.{Misfit}
use Rattle.dsa_waits.specs.declared.fitting.Misfit.TheVariants.{Number, Recording, Member}
use Rattle.dsa_waits.specs.declared.fitting.WaitsFault.{WaitsFault}
use Rattle.dsa_waits.specs.declared.fitting.WaitsFault.TheVariants as fault
use Rattle.dsa_waits.specs.declared.lines.Line.{Line}
use Rattle.dsa_waits.specs.declared.lines.Line.TheVariants.{Submitted, Happened}
use Rattle.dsa_waits.specs.declared.lines.Submitting.{Submitting}
use Rattle.dsa_waits.specs.Lines.{IsBadLine, Spells}
use Rattle.dsa_waits.specs.Keys.{AreUsedKeys, IsLeftWait}
use Rattle.dsa_waits.specs.Recorded.{IsCourseOf, bytes_of, submission_at}
use Rattle.dsa_waits.specs.Waits.{IsMissingWait, made_before, no_queue}

-- ---- one line

-- the members of a batch; of a lone descriptor none
abbrev pub members_of : Submission → ℕ
members_of s = if s.is_batch then s.size else 0

-- after the first `made` submissions: the line of a submission has the next number, which the recording has, with the same
-- operation and as many members
abbrev pub misfit_made : List (List ℕ) → List Submission → ℕ → Submitting → Option Misfit
misfit_made es ss made l =
    if not (l.number == made) then Some Number else
    if not (nat_lt made (length ss)) then Some Number else
    if not (l.code == code_at (bytes_of es (head_at (submission_at ss made)))) then Some Recording else
    if not (l.members == members_of (submission_at ss made)) then Some Recording else None

-- a member that ended is one of a submission that was made
abbrev pub misfit_member : List Submission → ℕ → ℕ → ℕ → Option Misfit
misfit_member ss made n m =
    if not (nat_lt n made) then Some Number else
    if not (nat_lt n (length ss)) then Some Number else
    if not (nat_lt m (members_of (submission_at ss n))) then Some Member else None

-- the submission was made
abbrev pub misfit_number : ℕ → ℕ → Option Misfit
misfit_number made n = if nat_lt n made then None else Some Number

-- why the line does not fit after the first `made` submissions
abbrev pub misfit_of : List (List ℕ) → List Submission → ℕ → Line → Option Misfit
misfit_of es ss made (Submitted l) = misfit_made es ss made l
misfit_of es ss made (Happened event.Submitted) = Some Number
misfit_of es ss made (Happened (event.MemberEnded n m)) = misfit_member ss made n m
misfit_of es ss made (Happened (event.Watched n)) = misfit_number made n
misfit_of es ss made (Happened (event.Ended n status)) = misfit_number made n
misfit_of es ss made (Happened (event.Known n)) = misfit_number made n

-- ---- all lines

-- the event of a line
abbrev pub event_of : Line → Event
event_of (Submitted l) = event.Submitted
event_of (Happened v) = v

-- how many submissions the first k lines make
abbrev pub made_by : List Line → ℕ → ℕ
made_by lines k = made_before (map event_of lines) k

-- line k
abbrev pub line_at : List Line → ℕ → Line
line_at lines k = get_or lines k (Submitted (record { number = 0; queue = no_queue; code = 0; members = 0 }))

-- the first k lines fit
abbrev pub FitUpTo : List (List ℕ) → List Submission → List Line → ℕ → Type 0
FitUpTo es ss lines k = (j : ℕ) → j < k → misfit_of es ss (made_by lines j) (line_at lines j) ≡ None

-- the queues of the submissions that the first k lines make
pub record AreQueues (lines : List Line) (k : ℕ) (queues : List Queue) : Type 0 where
  pub count : length queues ≡ made_by lines k
  pub each : (j : ℕ) (l : Submitting) → j < k → line_at lines j ≡ Submitted l → get_or queues (made_by lines j) no_queue ≡ l.queue

-- the lines fit, and make all submissions of the recording
pub record FitAll (es : List (List ℕ)) (ss : List Submission) (lines : List Line) : Type 0 where
  pub fit : FitUpTo es ss lines (length lines)
  pub all : made_by lines (length lines) ≡ length ss

-- the queue of a line that makes a submission
abbrev pub queues_of : Line → List Queue
queues_of (Submitted l) = l.queue ∷ []
queues_of (Happened v) = []

-- these are the queues and the events of lines that fit and make all submissions
pub record AreFitted (es : List (List ℕ)) (ss : List Submission) (lines : List Line) (queues : List Queue) (happened : List Event) : Type 0 where
  pub fit : FitAll es ss lines
  pub queues_are : AreQueues lines (length lines) queues
  pub events_are : happened ≡ map event_of lines

-- the first line that does not fit, and why; or all fit, and make fewer submissions than there are
abbrev pub IsUnfit : List (List ℕ) → List Submission → List Line → WaitsFault → Type 0
IsUnfit es ss lines (fault.Line k) = ⊥
IsUnfit es ss lines (fault.Unfit k why) = (k < length lines) × FitUpTo es ss lines k × (misfit_of es ss (made_by lines k) (line_at lines k) ≡ Some why)
IsUnfit es ss lines (fault.Few n) = FitUpTo es ss lines (length lines) × (n ≡ made_by lines (length lines)) × (n < length ss)
IsUnfit es ss lines fault.Memory = Unit

-- ---- the answer

-- for each entry the last one for which a wait is missing, in the course of the recording with the events of the text, and
-- the last one for which that is not accepted; and the accepted keys of all
pub record AreWaits (accepted : Accepted) (es : List (List ℕ)) (ss : List Submission) (text : List ℕ) (found : Found) : Type 0 where
  pub lines : List Line
  pub spelled : Spells text lines
  pub queues : List Queue
  pub fitted : AreFitted es ss lines queues (map event_of lines)
  pub recorded : IsCourseOf es ss queues (map event_of lines) found.course
  pub count : length found.waits.items ≡ length es
  pub missing : AreLasts (IsMissingWait found.course) found.waits.items
  pub count_left : length found.left.items ≡ length es
  pub left : AreLasts (IsLeftWait accepted es ss found.course) found.left.items
  pub used : AreUsedKeys accepted es ss found.course found.used

-- the first line that is none of an event; else of lines that are what does not fit
abbrev pub IsWaitsFault : List (List ℕ) → List Submission → List ℕ → WaitsFault → Type 0
IsWaitsFault es ss text (fault.Line k) = IsBadLine text k
IsWaitsFault es ss text (fault.Unfit k why) = (lines : List Line) × Spells text lines × IsUnfit es ss lines (fault.Unfit k why)
IsWaitsFault es ss text (fault.Few n) = (lines : List Line) × Spells text lines × IsUnfit es ss lines (fault.Few n)
IsWaitsFault es ss text fault.Memory = Unit
