-- ---- for private clauses: the course of a recording, submission by submission
use Rattle.std.specs.Prelude.{ℕ, zero, suc, ◌≡◌, ◌<◌, ◌≤◌, ◌==◌, ◌&&◌, not, Bool, false, List, [], ◌∷◌, length, get_or, slice_get, Option, Some}
use Rattle.dsa_descriptor.specs.Places.{code_at}
use Rattle.dsa_audit.specs.declared.member.Member.{Member}
use Rattle.dsa_audit.specs.declared.member.Member.TheVariants.{Unknown}
use Rattle.dsa_audit.specs.declared.member.Unseen.TheVariants.{Operation}
use Rattle.dsa_recording.specs.declared.stream.Submission.{Submission}
use Rattle.dsa_recording.specs.Streams.{end_of}
use Rattle.dsa_recording.specs.Submissions.{head_at}
use Rattle.dsa_waits.specs.declared.course.Entry.{Entry}
use Rattle.dsa_waits.specs.declared.course.Made.{Made}
use Rattle.dsa_waits.specs.declared.event.Event.{Event}
use Rattle.dsa_waits.specs.declared.event.Queue.{Queue}
use Rattle.dsa_waits.specs.Recorded.{IsAccess, IsEntry, bytes_of, no_submission}
use Rattle.dsa_waits.specs.Waits.{has_mark, made_at, no_entry, no_queue}

-- an entry of submission n, and what it reads and writes
pub record IsEntryAt (es : List (List ℕ)) (ss : List Submission) (e n : ℕ) (what : Entry) (m : Member) : Type 0 where
  pub submission : Submission
  pub is : slice_get ss n ≡ Some submission
  pub begun : head_at submission ≤ e
  pub ends : e < end_of submission
  pub entry : IsEntry es n (head_at submission) e what
  pub access : IsAccess es submission e m

-- the entries of the submission up to `to` were added
pub record WithEntries (es : List (List ℕ)) (s : Submission) (n to : ℕ) (entries : List Entry) (members : List Member) (entries' : List Entry) (members' : List Member) : Type 0 where
  pub count : length entries' ≡ to
  pub count_members : length members' ≡ to
  pub kept : (e : ℕ) → e < head_at s → get_or entries' e no_entry ≡ get_or entries e no_entry
  pub kept_members : (e : ℕ) → e < head_at s → get_or members' e (Unknown Operation) ≡ get_or members e (Unknown Operation)
  pub entry : (e : ℕ) → head_at s ≤ e → e < to → IsEntry es n (head_at s) e (get_or entries' e no_entry)
  pub access : (e : ℕ) → head_at s ≤ e → e < to → IsAccess es s e (get_or members' e (Unknown Operation))

-- before submission k there are so many entries
abbrev pub entries_before : ℕ → List Submission → ℕ → ℕ
entries_before from ss zero = from
entries_before from [] (suc k) = from
entries_before from (s ∷ ss) (suc k) = entries_before (end_of s) ss k

-- the first `to` entries are there, each of a submission
pub record HasEntries (es : List (List ℕ)) (ss : List Submission) (to : ℕ) (entries : List Entry) (members : List Member) : Type 0 where
  pub count : length entries ≡ to
  pub count_members : length members ≡ to
  pub each : (e : ℕ) → e < to → (n : ℕ) × IsEntryAt es ss e n (get_or entries e no_entry) (get_or members e (Unknown Operation))

-- of so many submissions these are marked by the events
pub record AreMarked (mark : Event → Option ℕ) (events : List Event) (all : ℕ) (flags : List Bool) : Type 0 where
  pub count : length flags ≡ all
  pub each : (n : ℕ) → n < all → get_or flags n false ≡ has_mark mark events n

-- the submission, with its queue, whether it is watched, and whether it failed
abbrev pub made_with : List (List ℕ) → Submission → Queue → Bool → Bool → Made
made_with es s queue is_watched has_failed =
    record {
      first = head_at s;
      end = end_of s;
      queue = queue;
      is_drain = code_at (bytes_of es (head_at s)) == 2 && not has_failed;
      is_watched = is_watched;
    }

-- the first `to` submissions
pub record AreMade (es : List (List ℕ)) (ss : List Submission) (queues : List Queue) (watched failed : List Bool) (to : ℕ) (made : List Made) : Type 0 where
  pub count : length made ≡ to
  pub each :
      (n : ℕ) → n < to →
      made_at made n
      ≡ made_with es (get_or ss n no_submission) (get_or queues n no_queue) (get_or watched n false) (get_or failed n false)
