-- What a recording says of the entries and submissions of a course.
use Rattle.std.specs.Prelude.{ℕ, ◌≡◌, ◌<◌, ◌≤◌, ◌⊎◌, ◌==◌, ◌&&◌, not, bit_and, Bool, true, false, List, [], length, get_or, slice_get, Some, slice_index_or, if◌then◌else◌}
use Rattle.dsa_descriptor.specs.declared.span.Span.{Span}
use Rattle.dsa_descriptor.specs.Places.{flags_at, code_at}
use Rattle.dsa_audit.specs.declared.member.Member.{Member}
use Rattle.dsa_audit.specs.declared.member.Member.TheVariants.{Known, Unknown}
use Rattle.dsa_audit.specs.declared.member.Unseen.TheVariants.{Operation}
use Rattle.dsa_recording.specs.declared.stream.Submission.{Submission}
use Rattle.dsa_recording.specs.Streams.{end_of}
use Rattle.dsa_descriptor.specs.Fences.{is_fenced}
use Rattle.dsa_recording.specs.Submissions.{head_at}
use Rattle.dsa_recording.specs.declared.member.Aspect.TheVariants.{Whole}
use Rattle.dsa_recording.specs.Entries.{IsMember, records_of}
use Rattle.dsa_recording.specs.Flaws.{list_spans}
use Rattle.dsa_waits.specs.declared.course.Course.{Course}
use Rattle.dsa_waits.specs.declared.course.Entry.{Entry}
use Rattle.dsa_waits.specs.declared.course.Made.{Made}
use Rattle.dsa_waits.specs.declared.event.Event.{Event}
use Rattle.dsa_waits.specs.declared.event.Event.TheVariants.{Submitted, Watched, MemberEnded, Ended, Known as Looked}
use Rattle.dsa_waits.specs.declared.event.Queue.{Queue}
use Rattle.dsa_waits.specs.Waits.{entry_at, failed_by, has_mark, made_at, no_queue, watched_by}

-- ---- a submission

-- read where there is none
abbrev pub no_submission : Submission
no_submission = record { first = 0; size = 0; is_batch = false }

-- submission n
abbrev pub submission_at : List Submission → ℕ → Submission
submission_at ss n = get_or ss n no_submission

-- ---- an entry

-- entry e of a recording
abbrev pub bytes_of : List (List ℕ) → ℕ → List ℕ
bytes_of es e = slice_index_or es e []

-- it asks for a completion record: the flags 0x0004, whose address is valid, and 0x0008, which is requested (specification
-- 341204, flags)
abbrev pub asks_record : List ℕ → Bool
asks_record e = bit_and (flags_at e) 0x0c == 0x0c

-- of a submission that begins with entry `first`, the epoch of entry e begins with the last member up to e that has a fence;
-- if none has, with the descriptor
pub record IsEpoch (es : List (List ℕ)) (first e epoch : ℕ) : Type 0 where
  pub begun : first ≤ epoch
  pub reached : epoch ≤ e
  pub fence : (epoch ≡ first) ⊎ (is_fenced (bytes_of es epoch) ≡ true)
  pub last : (k : ℕ) → epoch < k → k ≤ e → is_fenced (bytes_of es k) ≡ false

-- entry e is of submission n, which begins with entry `first`
pub record IsEntry (es : List (List ℕ)) (n first e : ℕ) (entry : Entry) : Type 0 where
  pub submission : entry.submission ≡ n
  pub epoch : IsEpoch es first e entry.epoch
  pub asks_record : entry.asks_record ≡ asks_record (bytes_of es e)

-- ---- what it reads and writes

-- the descriptors of a batch. Those of a batch that asks for no record are left out: nothing would ever tell that they have
-- been read
abbrev pub watched_list : List ℕ → List Span
watched_list h = if asks_record h then list_spans h else []

-- the descriptor of a batch reads its list and writes its record
abbrev pub IsHeadAccess : List ℕ → Member → Type 0
IsHeadAccess h (Known t) = (t.reads.items ≡ watched_list h) × (t.writes.items ≡ records_of h)
IsHeadAccess h (Unknown why) = ⊥

-- what entry e of the submission reads and writes; of a member, or of a lone descriptor, what an audit knows of it
pub record IsAccess (es : List (List ℕ)) (s : Submission) (e : ℕ) (m : Member) : Type 0 where
  pub head : e < s.first → IsHeadAccess (bytes_of es e) m
  pub member : s.first ≤ e → IsMember Whole (bytes_of es (head_at s)) (bytes_of es e) m

-- ---- events

-- the event names a submission that is there, and a member of a batch
abbrev pub FitsRecording : List Submission → Event → Type 0
FitsRecording ss Submitted = Unit
FitsRecording ss (Watched n) = n < length ss
FitsRecording ss (MemberEnded n m) =
    (s : Submission) × (slice_get ss n ≡ Some s) × (s.is_batch ≡ true) × (m < s.size)
FitsRecording ss (Ended n status) = n < length ss
FitsRecording ss (Looked n) = n < length ss

-- ---- the whole

-- submission n, with its queue: a drain has operation code 0x02 (linux/idxd.h), and waits for nothing if it fails
pub record IsMade (es : List (List ℕ)) (events : List Event) (s : Submission) (to : Queue) (n : ℕ) (made : Made) : Type 0 where
  pub first : made.first ≡ head_at s
  pub end : made.end ≡ end_of s
  pub queue : made.queue ≡ to
  pub is_drain : made.is_drain ≡ (code_at (bytes_of es (head_at s)) == 2 && not (has_mark failed_by events n))
  pub is_watched : made.is_watched ≡ has_mark watched_by events n

-- entry e is one of submission n
pub record IsEntryOf (es : List (List ℕ)) (ss : List Submission) (c : Course) (e n : ℕ) : Type 0 where
  pub submission : Submission
  pub is : slice_get ss n ≡ Some submission
  pub begun : head_at submission ≤ e
  pub ends : e < end_of submission
  pub entry : IsEntry es n (head_at submission) e (entry_at c e)
  pub access : IsAccess es submission e (get_or c.members.items e (Unknown Operation))

-- the course of these submissions, to these queues, with these events
pub record IsCourseOf (es : List (List ℕ)) (ss : List Submission) (queues : List Queue) (happened : List Event) (c : Course) : Type 0 where
  pub entries : length c.entries.items ≡ length es
  pub members : length c.members.items ≡ length es
  pub each : (e : ℕ) → e < length es → (n : ℕ) × IsEntryOf es ss c e n
  pub made : length c.made.items ≡ length ss
  pub all_made : (n : ℕ) (s : Submission) → slice_get ss n ≡ Some s → IsMade es happened s (get_or queues n no_queue) n (made_at c.made.items n)
  pub events : c.events.items ≡ happened
