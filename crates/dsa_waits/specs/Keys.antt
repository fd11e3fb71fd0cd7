-- What missing waits of one kind have in common, and which of them are accepted (this project's choice). As those of other
-- errors, a key has no address and no number of an entry, so it is the same in another run.
use Rattle.std.specs.Prelude.{ℕ, ◌≡◌, ◌<◌, ◌↔◌, true, List, ◌++◌, codes}
use Rattle.dsa_audit.specs.declared.hazard.Hazards.{Hazards}
use Rattle.dsa_audit.specs.Members.{AreHazardsBetween, KnownConflict}
use Rattle.dsa_recording.specs.declared.accepted.Accepted.{Accepted}
use Rattle.dsa_recording.specs.declared.stream.Submission.{Submission}
use Rattle.dsa_recording.specs.Pairs.{has_key}
use Rattle.dsa_recording.specs.EntryKeys.{hazard_names, key_of_entry}
use Rattle.dsa_waits.specs.declared.course.Course.{Course}
use Rattle.dsa_waits.specs.Recorded.{submission_at}
use Rattle.dsa_waits.specs.Waits.{IsMissingWait, submission_of}

-- the key of a missing wait, of an entry of submission t for an earlier one of submission s, which have these hazards
abbrev pub wait_key : List (List ℕ) → Submission → Submission → ℕ → ℕ → Hazards → List ℕ
wait_key es s t earlier later hs =
    codes "missing wait" ++ (hazard_names hs ++ (key_of_entry es t later ++ key_of_entry es s earlier))

-- what keys say of an entry
abbrev pub key_at : List (List ℕ) → List Submission → Course → ℕ → List ℕ
key_at es ss c e = key_of_entry es (submission_at ss (submission_of c e)) e

-- the key of a missing wait of the later entry for the earlier one, which have these hazards
abbrev pub key_between : List (List ℕ) → List Submission → Course → ℕ → ℕ → Hazards → List ℕ
key_between es ss c earlier later hs =
    wait_key es (submission_at ss (submission_of c earlier)) (submission_at ss (submission_of c later)) earlier later hs

-- this is the key of a missing wait of the later entry for the earlier one, which conflict
abbrev pub IsWaitKey : List (List ℕ) → List Submission → Course → ℕ → ℕ → List ℕ → Type 0
IsWaitKey es ss c earlier later key =
    (earlier < later) × KnownConflict c.members.items earlier later × ((hs : Hazards) × AreHazardsBetween c.members.items earlier later hs
    × (key ≡ wait_key es (submission_at ss (submission_of c earlier)) (submission_at ss (submission_of c later)) earlier later hs))

-- it has a key, which is accepted
abbrev pub IsWaitAccepted : Accepted → List (List ℕ) → List Submission → Course → ℕ → ℕ → Type 0
IsWaitAccepted accepted es ss c earlier later =
    (key : List ℕ) × IsWaitKey es ss c earlier later key × (has_key accepted key ≡ true)

-- the later entry conflicts with the earlier one so that a wait for that is not accepted
abbrev pub IsLeftConflict : Accepted → List (List ℕ) → List Submission → Course → ℕ → ℕ → Type 0
IsLeftConflict accepted es ss c earlier later =
    KnownConflict c.members.items earlier later × (¬ IsWaitAccepted accepted es ss c earlier later)

-- a missing wait that is left: it is not accepted
abbrev pub IsLeftWait : Accepted → List (List ℕ) → List Submission → Course → ℕ → ℕ → Type 0
IsLeftWait accepted es ss c earlier later =
    IsMissingWait c earlier later × (¬ IsWaitAccepted accepted es ss c earlier later)

-- none is left: each missing wait is accepted
abbrev pub NoneIsLeft : Accepted → List (List ℕ) → List Submission → Course → Type 0
NoneIsLeft accepted es ss c = (earlier later : ℕ) → earlier < later → ¬ IsLeftWait accepted es ss c earlier later

-- the key is accepted, and it is that of a missing wait
abbrev pub IsUsedKey : Accepted → List (List ℕ) → List Submission → Course → List ℕ → Type 0
IsUsedKey accepted es ss c key =
    (has_key accepted key ≡ true)
    × ((earlier : ℕ) × (later : ℕ) × IsMissingWait c earlier later × IsWaitKey es ss c earlier later key)

-- these are the keys that are used
abbrev pub AreUsedKeys : Accepted → List (List ℕ) → List Submission → Course → Accepted → Type 0
AreUsedKeys accepted es ss c used = (key : List ℕ) → (has_key used key ≡ true) ↔ IsUsedKey accepted es ss c key
