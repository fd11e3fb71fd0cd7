-- ---- for private clauses: the search, event by event
use Rattle.std.specs.Prelude.{ℕ, ◌≡◌, ◌<◌, ◌≤◌, ◌↔◌, ◌⊎◌, ◌≢◌, Bool, true, false, List, [], ◌∷◌, ◌++◌, length, get_or, Option, Some, None, String, string_bytes}
use Rattle.std.specs.Global.{Global}
use Rattle.std.specs.List.{AllPairs, Contains}
use Rattle.dsa_audit.specs.Steps.{AreLasts}
use Rattle.dsa_recording.specs.declared.accepted.Accepted.{Accepted}
use Rattle.dsa_recording.specs.declared.stream.Submission.{Submission}
use Rattle.dsa_recording.specs.Pairs.{has_key}
use Rattle.dsa_waits.specs.declared.course.Course.{Course}
use Rattle.dsa_waits.specs.declared.search.Flying.{Flying}
use Rattle.dsa_audit.specs.declared.hazard.Hazards.{Hazards}
use Rattle.dsa_waits.specs.declared.known.Known.{Known}
use Rattle.dsa_waits.specs.Keys.{IsLeftWait, IsWaitKey, key_at, key_between}
use Rattle.dsa_waits.specs.Waits.{IsMissingWait, IsOutstanding, has_ended, made_before, submission_of, tells}

-- the flag of this submission is set, if there is one
pub record Marks (number : Option ℕ) (old new : List Bool) : Type 0 where
  pub count : length new ≡ length old
  pub marked : (n : ℕ) → n < length old → get_or new n false ≡ true → (get_or old n false ≡ true) ⊎ (number ≡ Some n)
  pub others : (n : ℕ) → n < length old → get_or new n false ≡ false → (get_or old n false ≡ false) × (number ≢ Some n)

-- each number is below those after it
abbrev pub IsRising : List ℕ → Type 0
IsRising xs = AllPairs (λ x y. x < y) xs

-- all are below the number
abbrev pub AreBelow : ℕ → List ℕ → Type 0
AreBelow n xs = (x : ℕ) → Contains xs x → x < n

-- these are the entries that are outstanding when submission n is made
pub record AreOutstanding (c : Course) (n : ℕ) (xs : List ℕ) : Type 0 where
  pub inside : (x : ℕ) → Contains xs x → x < length c.entries.items
  pub before : (x : ℕ) → Contains xs x → submission_of c x < n
  pub are : (x : ℕ) → Contains xs x → IsOutstanding c x n
  pub all : (x : ℕ) → x < length c.entries.items → submission_of c x < n → IsOutstanding c x n → Contains xs x

-- the entries between are those of submission n
abbrev pub HasSubmission : Course → ℕ → ℕ → ℕ → Type 0
HasSubmission c n from end = (e : ℕ) → from ≤ e → e < end → submission_of c e ≡ n

-- the numbers with those between
pub record WithRange (xs : List ℕ) (from end : ℕ) (ys : List ℕ) : Type 0 where
  pub rising : IsRising ys
  pub kept : (x : ℕ) → Contains xs x → Contains ys x
  pub more : (x : ℕ) → from ≤ x → x < end → Contains ys x
  pub only : (x : ℕ) → Contains ys x → Contains xs x ⊎ ((from ≤ x) × (x < end))

-- by none of the first k events after its making does the program know that entry e has ended
abbrev pub IsNotTold : Course → ℕ → ℕ → Type 0
IsNotTold c k e = (q : ℕ) → q < k → submission_of c e < made_before c.events.items q → tells c q e ≡ false

-- the key is accepted, and is that of two entries
abbrev pub IsUsedPair : Accepted → List (List ℕ) → List Submission → Course → ℕ → ℕ → List ℕ → Type 0
IsUsedPair accepted es ss c earlier later key = (has_key accepted key ≡ true) × IsWaitKey es ss c earlier later key

-- it is that of the later entry and one of the first n of these
abbrev pub UsesFirst : Accepted → List (List ℕ) → List Submission → Course → List ℕ → ℕ → ℕ → List ℕ → Type 0
UsesFirst accepted es ss c xs n later key =
    (i : ℕ) × (i < n) × IsUsedPair accepted es ss c (get_or xs i 0) later key

-- it is that of an entry from `from` up to `to` and one of these
abbrev pub UsesBetween : Accepted → List (List ℕ) → List Submission → Course → List ℕ → ℕ → ℕ → List ℕ → Type 0
UsesBetween accepted es ss c xs from to key =
    (later : ℕ) × (from ≤ later) × (later < to) × UsesFirst accepted es ss c xs (length xs) later key

-- it is that of a missing wait of one of the first entries
abbrev pub UsesBelow : Accepted → List (List ℕ) → List Submission → Course → ℕ → List ℕ → Type 0
UsesBelow accepted es ss c to key =
    (has_key accepted key ≡ true)
    × ((earlier : ℕ) × (later : ℕ) × (later < to) × IsMissingWait c earlier later × IsWaitKey es ss c earlier later key)

-- what is in flight after the first k events, where these waits are accepted
pub record IsFlying (accepted : Accepted) (es : List (List ℕ)) (ss : List Submission) (c : Course) (k : ℕ) (f : Flying) : Type 0 where
  pub number : f.number ≡ made_before c.events.items k
  pub bound : length f.waits.items ≤ length c.entries.items
  pub done : (e : ℕ) → e < length f.waits.items → submission_of c e < f.number
  pub whole : (e : ℕ) → e < length c.entries.items → submission_of c e < f.number → e < length f.waits.items
  pub waits : AreLasts (IsLeftWait accepted es ss c) f.waits.items
  pub rising : IsRising f.outstanding.items
  pub inside : (e : ℕ) → Contains f.outstanding.items e → e < length f.waits.items
  pub not_told : (e : ℕ) → Contains f.outstanding.items e → IsNotTold c k e
  pub all : (e : ℕ) → e < length f.waits.items → IsNotTold c k e → Contains f.outstanding.items e
  pub flags : length f.ended.items ≡ length c.made.items
  pub ended : (n : ℕ) → n < length c.made.items → get_or f.ended.items n false ≡ has_ended c k n
  pub used : (key : List ℕ) → (has_key f.used key ≡ true) ↔ UsesBelow accepted es ss c (length f.waits.items) key

-- ---- what is known of the waits of one entry

-- a wait for this earlier entry with these hazards has the key of the known one
abbrev pub HasKeyOf : List (List ℕ) → List Submission → Course → Known → ℕ → Hazards → Type 0
HasKeyOf es ss c one earlier hs = (one.hazards ≡ hs) × (key_at es ss c one.earlier ≡ key_at es ss c earlier)

-- the key of a wait of entry `later` for the known one
abbrev pub key_of_known : List (List ℕ) → List Submission → Course → ℕ → Known → List ℕ
key_of_known es ss c later one = key_between es ss c one.earlier later one.hazards

-- whether its key is accepted
abbrev pub IsKnown : Accepted → List (List ℕ) → List Submission → Course → ℕ → Known → Type 0
IsKnown accepted es ss c later one = has_key accepted (key_of_known es ss c later one) ≡ one.is_accepted

-- its key is among those that are used, if it is accepted
abbrev pub IsSettled : Accepted → List (List ℕ) → List Submission → Course → ℕ → Accepted → Known → Type 0
IsSettled accepted es ss c later used one =
    has_key accepted (key_of_known es ss c later one) ≡ true → has_key used (key_of_known es ss c later one) ≡ true

-- what is known of a wait once its key is looked up
abbrev pub looked_up : Accepted → List (List ℕ) → List Submission → Course → ℕ → ℕ → Hazards → Known
looked_up accepted es ss c earlier later hs =
    record { earlier = earlier; hazards = hs; is_accepted = has_key accepted (key_between es ss c earlier later hs) }

-- this is the key, if it is accepted; else there is none
abbrev pub IsAcceptedKey : Accepted → List ℕ → Option (String Global) → Type 0
IsAcceptedKey accepted key None = has_key accepted key ≡ false
IsAcceptedKey accepted key (Some s) = (has_key accepted key ≡ true) × (string_bytes s ≡ key)

-- one more is known, or none
abbrev pub Remembers : Known → List Known → List Known → Type 0
Remembers one old new = (new ≡ old) ⊎ (new ≡ old ++ (one ∷ []))
