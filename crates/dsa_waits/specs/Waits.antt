-- What a program may know of its submissions in flight, and which waits between them are missing. A completion record says
-- that a descriptor has ended; a descriptor with a fence begins when all before it in its batch have ended; a drain ends
-- when all before it in its queue have ended (specification 341204). That nothing else tells the program of an end is this
-- project's choice: interrupts are not in a recording.
use Rattle.std.specs.Prelude.{ℕ, zero, suc, ◌≡◌, ◌+◌, ◌<◌, ◌≤◌, nat_lt, ◌==◌, Bool, true, false, not, ◌&&◌, ◌||◌, List, [], ◌∷◌, length, take, get_or, Option, Some, None, if◌then◌else◌}
use Rattle.std.specs.List.{list_any}
use Rattle.dsa_audit.specs.Members.{KnownConflict}
use Rattle.dsa_waits.specs.declared.course.Course.{Course}
use Rattle.dsa_waits.specs.declared.course.Entry.{Entry}
use Rattle.dsa_waits.specs.declared.course.Made.{Made}
use Rattle.dsa_waits.specs.declared.course.Told.{Told}
use Rattle.dsa_waits.specs.declared.course.Told.TheVariants as told
use Rattle.dsa_waits.specs.declared.event.Event.{Event}
use Rattle.dsa_waits.specs.declared.event.Event.TheVariants.{Submitted, Watched, MemberEnded, Ended, Known}
use Rattle.dsa_waits.specs.declared.event.Queue.{Queue}

-- ---- entries, submissions and events by their numbers

-- read where there is none
abbrev pub no_entry : Entry
no_entry = record { submission = 0; epoch = 0; asks_record = false }

-- the same of queues
abbrev pub no_queue : Queue
no_queue = record { device = 0; number = 0 }

-- and of submissions
abbrev pub none_made : Made
none_made = record { first = 0; end = 0; queue = no_queue; is_drain = false; is_watched = false }

-- entry e
abbrev pub entry_at : Course → ℕ → Entry
entry_at c e = get_or c.entries.items e no_entry

-- the submission of entry e
abbrev pub submission_of : Course → ℕ → ℕ
submission_of c e = (entry_at c e).submission

-- submission n
abbrev pub made_at : List Made → ℕ → Made
made_at made n = get_or made n none_made

-- the entry of its descriptor
abbrev pub first_of : Course → ℕ → ℕ
first_of c n = (made_at c.made.items n).first

-- event k
abbrev pub event_at : Course → ℕ → Event
event_at c k = get_or c.events.items k Submitted

-- ---- what events say of submissions

-- the submission whose record is watched from the event on
abbrev pub watched_by : Event → Option ℕ
watched_by Submitted = None
watched_by (Watched n) = Some n
watched_by (MemberEnded n m) = None
watched_by (Ended n status) = None
watched_by (Known n) = None

-- the one that has ended
abbrev pub ended_by : Event → Option ℕ
ended_by Submitted = None
ended_by (Watched n) = None
ended_by (MemberEnded n m) = None
ended_by (Ended n status) = Some n
ended_by (Known n) = None

-- the one that has ended with an error: with another status than 1 (specification 341204, completion record)
abbrev pub failed_by : Event → Option ℕ
failed_by Submitted = None
failed_by (Watched n) = None
failed_by (MemberEnded n m) = None
failed_by (Ended n status) = if status == 1 then None else Some n
failed_by (Known n) = None

-- it is submission n
abbrev pub is_number : ℕ → Option ℕ → Bool
is_number n None = false
is_number n (Some m) = m == n

-- some event says this of submission n
abbrev pub has_mark : (Event → Option ℕ) → List Event → ℕ → Bool
has_mark mark events n = list_any (λ v. is_number n (mark v)) events

-- submission n has ended by the first k events
abbrev pub has_ended : Course → ℕ → ℕ → Bool
has_ended c k n = has_mark ended_by (take k c.events.items) n

-- ---- what an event tells

-- when a member has ended, the program knows it of that member, if it asks for a record
abbrev pub told_by_member : Course → ℕ → Told
told_by_member c e = if (entry_at c e).asks_record then told.Entry e else told.Nothing

-- when a submission has ended, the program knows it of all of it, if it asks for a record; but if it is seen whether it looks at that
-- record, only its look tells
abbrev pub told_by_end : Course → ℕ → Told
told_by_end c n =
    if (made_at c.made.items n).is_watched || not (entry_at c (first_of c n)).asks_record then told.Nothing else told.Submission n

-- a look at its record tells as much, if it has ended before
abbrev pub told_by_look : (ℕ → Bool) → ℕ → Told
told_by_look ended n = if ended n then told.Submission n else told.Nothing

-- what an event tells, if these submissions have ended before; the members of a batch come after its descriptor
abbrev pub told_by : Course → (ℕ → Bool) → Event → Told
told_by c ended Submitted = told.Nothing
told_by c ended (Watched n) = told.Nothing
told_by c ended (MemberEnded n m) = told_by_member c (first_of c n + 1 + m)
told_by c ended (Ended n status) = told_by_end c n
told_by c ended (Known n) = told_by_look ended n

-- who knows that submission `later` has ended knows it of `earlier`: they are one, or the later is a drain of its queue
-- that did not fail
abbrev pub is_same_or_drained : List Made → ℕ → ℕ → Bool
is_same_or_drained made earlier later =
    if earlier == later then true else
    ((made_at made later).is_drain && nat_lt earlier later
    && ((made_at made earlier).queue.device == (made_at made later).queue.device)
    && ((made_at made earlier).queue.number == (made_at made later).queue.number))

-- entry e is a member of the batch of m, before the epoch of m: who knows that m has ended knows it of e
abbrev pub is_before_epoch : Course → ℕ → ℕ → Bool
is_before_epoch c m e =
    (submission_of c e == submission_of c m) && nat_lt (first_of c (submission_of c e)) e && nat_lt e (entry_at c m).epoch

-- entry e is one of those that were told
abbrev pub is_told : Course → Told → ℕ → Bool
is_told c told.Nothing e = false
is_told c (told.Submission n) e = is_same_or_drained c.made.items (submission_of c e) n
is_told c (told.Entry m) e = (e == m) || is_before_epoch c m e

-- event k tells the program that entry e has ended
abbrev pub tells : Course → ℕ → ℕ → Bool
tells c k e = is_told c (told_by c (has_ended c k) (event_at c k)) e

-- ---- missing waits

-- whether a submission is made
abbrev pub is_made : Event → ℕ
is_made Submitted = 1
is_made (Watched n) = 0
is_made (MemberEnded n m) = 0
is_made (Ended n status) = 0
is_made (Known n) = 0

-- how many submissions are made by the first k events
abbrev pub made_before : List Event → ℕ → ℕ
made_before [] k = 0
made_before (v ∷ vs) zero = 0
made_before (v ∷ vs) (suc k) = is_made v + made_before vs k

-- entry e was in flight for all that the program could know when submission n was made: no event between the makings of its
-- own submission and of n shows its end
abbrev pub IsOutstanding : Course → ℕ → ℕ → Type 0
IsOutstanding c e n =
    (k : ℕ) → k < length c.events.items → submission_of c e < made_before c.events.items k →
    made_before c.events.items k ≤ n → tells c k e ≡ false

-- the later entry conflicts with an entry of an earlier submission that was in flight when its own was made
pub record IsMissingWait (c : Course) (earlier later : ℕ) : Type 0 where
  pub inside : earlier < length c.entries.items
  pub before : submission_of c earlier < submission_of c later
  pub in_flight : IsOutstanding c earlier (submission_of c later)
  pub conflict : KnownConflict c.members.items earlier later

-- ---- what is asked of a course

-- the event names submissions and entries that are there
abbrev pub Fits : Course → Event → Type 0
Fits c Submitted = Unit
Fits c (Watched n) = n < length c.made.items
Fits c (MemberEnded n m) = (n < length c.made.items) × (first_of c n + 1 + m < length c.entries.items)
Fits c (Ended n status) = n < length c.made.items
Fits c (Known n) = n < length c.made.items

-- the entries of a submission are those from its first up to its end, and the entries of all submissions are all
pub record IsCourse (c : Course) : Type 0 where
  pub members : length c.members.items ≡ length c.entries.items
  pub made : (e : ℕ) → e < length c.entries.items → submission_of c e < length c.made.items
  pub begins : (n : ℕ) → n < length c.made.items → first_of c n < length c.entries.items
  pub ends : (n : ℕ) → n < length c.made.items → (made_at c.made.items n).end ≤ length c.entries.items
  pub own : (e n : ℕ) → e < length c.entries.items → n < length c.made.items → e < (made_at c.made.items n).end → submission_of c e ≤ n
  pub others : (e n : ℕ) → e < length c.entries.items → n < length c.made.items → (made_at c.made.items n).end ≤ e → n < submission_of c e
  pub count : made_before c.events.items (length c.events.items) ≡ length c.made.items
  pub fit : (k : ℕ) → k < length c.events.items → Fits c (event_at c k)
