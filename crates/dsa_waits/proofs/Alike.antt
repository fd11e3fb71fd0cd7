-- Entries that keys name in the same words, and what is known of the waits of one entry.
use Rattle.std.proofs.Common.{cond, ◌≡◌, ℕ, ◌+◌, ◌-◌, ◌<◌, inl, inr, Bool, true, false, List, ◌++◌, get_or, slice_get, Option, Some, None, is_some, String, sym, ap, subst, refl, ◌∙◌, arith}
use Rattle.std.specs.Prelude.{All, codes, decimal, nat_lt, if◌then◌else◌}
use Rattle.std.specs.Global.{Global}
use Rattle.std.specs.List.{Contains}
use Rattle.std.specs.Str.{bytes_eq}
use Rattle.std.proofs.lemmas.Bool.{ltb-false}
use Rattle.std.proofs.lemmas.List.Elements.{All-contains, All-push}
use Rattle.dsa_audit.specs.declared.hazard.Hazards.{Hazards}
use Rattle.dsa_audit.specs.Members.{AreHazardsBetween, KnownConflict}
use Rattle.dsa_recording.specs.declared.accepted.Accepted.{Accepted}
use Rattle.dsa_recording.specs.declared.stream.Submission.{Submission}
use Rattle.dsa_recording.specs.EntryKeys.{batch_key, entry_key, hazard_names, key_of_entry, member_key}
use Rattle.dsa_recording.specs.Pairs.{has_key}
use Rattle.dsa_recording.specs.Uses.{AddsKeys}
use Rattle.dsa_recording.proofs.Using.{adds_line, adds_none, adds_same}
use Rattle.dsa_waits.specs.declared.course.Course.{Course}
use Rattle.dsa_waits.specs.declared.known.Known.{Known}
use Rattle.dsa_waits.specs.Keys.{IsWaitAccepted, IsWaitKey, key_at, key_between}
use Rattle.dsa_waits.specs.Steps.{HasKeyOf, IsAcceptedKey, IsKnown, IsSettled, IsUsedPair, Remembers, key_of_known, looked_up}
use Rattle.dsa_waits.proofs.Hazards.{accepted_by, one_key}

-- ---- the words of an entry

-- by whether it is of a batch, and its descriptor
key_by : Bool → Bool → ℕ → ℕ → List ℕ → List ℕ
key_by false is_head size m words = codes "; lone: " ++ words
key_by true true size m words = batch_key size
key_by true false size m words = batch_key size ++ (codes "; member " ++ (decimal m ++ (codes ": " ++ words)))

words_by : (es : List (List ℕ)) (s : Submission) (e : ℕ) (b h : Bool) → s.is_batch ≡ b → nat_lt e s.first ≡ h → key_of_entry es s e ≡ key_by b h s.size (e - s.first) (entry_key (slice_get es e))
unfolding key_by
words_by es s e false h batch head =
    ap (λ (x : Bool). if x then (if nat_lt e s.first then batch_key s.size else batch_key s.size ++ member_key es s.first (e - s.first)) else codes "; lone: " ++ entry_key (slice_get es e)) batch
words_by es s e true true batch head =
    ap (λ (x : Bool). if x then (if nat_lt e s.first then batch_key s.size else batch_key s.size ++ member_key es s.first (e - s.first)) else codes "; lone: " ++ entry_key (slice_get es e)) batch
    ∙ ap (λ (y : Bool). if y then batch_key s.size else batch_key s.size ++ member_key es s.first (e - s.first)) head
words_by es s e true false batch head =
    let on : s.first + (e - s.first) ≡ e = omega (arith, ltb-false e s.first head) in
    ap (λ (x : Bool). if x then (if nat_lt e s.first then batch_key s.size else batch_key s.size ++ member_key es s.first (e - s.first)) else codes "; lone: " ++ entry_key (slice_get es e)) batch
    ∙ (ap (λ (y : Bool). if y then batch_key s.size else batch_key s.size ++ member_key es s.first (e - s.first)) head
    ∙ ap (λ (k : ℕ). batch_key s.size ++ (codes "; member " ++ (decimal (e - s.first) ++ (codes ": " ++ entry_key (slice_get es k))))) on)

-- so two entries have the same if all of these are the same
pub same_words : (es : List (List ℕ)) (s t : Submission) (x y : ℕ) → s.is_batch ≡ t.is_batch → s.size ≡ t.size → nat_lt x s.first ≡ nat_lt y t.first → x - s.first ≡ y - t.first
    → entry_key (slice_get es x) ≡ entry_key (slice_get es y) → key_of_entry es s x ≡ key_of_entry es t y
same_words es s t x y batch size head member words =
    words_by es s x s.is_batch (nat_lt x s.first) refl refl
    ∙ (ap (λ (b : Bool). key_by b (nat_lt x s.first) s.size (x - s.first) (entry_key (slice_get es x))) batch
    ∙ (ap (λ (h : Bool). key_by t.is_batch h s.size (x - s.first) (entry_key (slice_get es x))) head
    ∙ (ap (λ (n : ℕ). key_by t.is_batch (nat_lt y t.first) n (x - s.first) (entry_key (slice_get es x))) size
    ∙ (ap (λ (m : ℕ). key_by t.is_batch (nat_lt y t.first) t.size m (entry_key (slice_get es x))) member
    ∙ (ap (λ (w : List ℕ). key_by t.is_batch (nat_lt y t.first) t.size (y - t.first) w) words
    ∙ sym (words_by es t y t.is_batch (nat_lt y t.first) refl refl))))))

-- ---- known waits

-- what is so of each known one is so of one more
pub remembered : (P : Known → Type 0) (one : Known) (old new : List Known) → Remembers one old new → All P old → P one → All P new
remembered P one old new (inl same) all is = subst (λ (l : List Known). All P l) (sym same) all
remembered P one old new (inr more) all is = subst (λ (l : List Known). All P l) (sym more) (All-push P old one all is)

-- ---- a key that was looked up

-- a key that is found is accepted, and one that is accepted is found
pub found_if : (accepted : Accepted) (key : List ℕ) (found : Option (String Global)) → IsAcceptedKey accepted key found → has_key accepted key ≡ is_some found
found_if accepted key None is = is
found_if accepted key (Some s) is = is.0

-- the key is added if it is accepted
pub adds_accepted : (accepted old new : Accepted) (key line : List ℕ) → has_key accepted key ≡ true → line ≡ key
    → ((other : List ℕ) → has_key new other ≡ cond (bytes_eq line other) true (has_key old other))
    → AddsKeys (λ other. (other ≡ key) × (has_key accepted other ≡ true)) old new
adds_accepted accepted old new key line has same is =
    adds_line (λ other. has_key accepted other ≡ true) key old new
    (subst (λ (l : List ℕ). (other : List ℕ) → has_key new other ≡ cond (bytes_eq l other) true (has_key old other)) same is) has

pub adds_unaccepted : (accepted used : Accepted) (key : List ℕ) → has_key accepted key ≡ false → AddsKeys (λ other. (other ≡ key) × (has_key accepted other ≡ true)) used used
adds_unaccepted accepted used key hasnt =
    adds_none (λ other. (other ≡ key) × (has_key accepted other ≡ true)) used
    (λ other both. let end : false ≡ true = sym hasnt ∙ (ap (has_key accepted) (sym both.0) ∙ both.1) in absurd cc)

-- ---- waits between two entries

module _ (es : List (List ℕ)) (ss : List Submission) (c : Course) where
  pub known_alike : (one : Known) (earlier later : ℕ) (hs : Hazards) → HasKeyOf es ss c one earlier hs → key_of_known es ss c later one ≡ key_between es ss c earlier later hs
  known_alike one earlier later hs (same, alike) =
      ap (λ (w : List ℕ). codes "missing wait" ++ (hazard_names one.hazards ++ (key_at es ss c later ++ w))) alike
      ∙ ap (λ (h : Hazards). codes "missing wait" ++ (hazard_names h ++ (key_at es ss c later ++ key_at es ss c earlier))) same

  own_key : (earlier later : ℕ) (hs : Hazards) → earlier < later → KnownConflict c.members.items earlier later → AreHazardsBetween c.members.items earlier later hs
      → IsWaitKey es ss c earlier later (key_between es ss c earlier later hs)
  own_key earlier later hs lt conflict are = (lt, conflict, (hs, are, refl))

  -- a wait is accepted if its key is
  pub accepted_if : (accepted : Accepted) (earlier later : ℕ) (hs : Hazards) (yes : Bool) → earlier < later → KnownConflict c.members.items earlier later → AreHazardsBetween c.members.items earlier later hs
      → has_key accepted (key_between es ss c earlier later hs) ≡ yes → (yes ≡ true → IsWaitAccepted accepted es ss c earlier later) × (IsWaitAccepted accepted es ss c earlier later → yes ≡ true)
  accepted_if accepted earlier later hs answer lt conflict are is = (
    λ so. (key_between es ss c earlier later hs, own_key earlier later hs lt conflict are, is ∙ so),
    λ a. sym is ∙ accepted_by accepted es ss c earlier later (key_between es ss c earlier later hs) (own_key earlier later hs lt conflict are) a,
  )

  -- as that of a known one is
  pub known_answer : (accepted : Accepted) (known : List Known) (one : Known) (earlier later : ℕ) (hs : Hazards) → All (IsKnown accepted es ss c later) known → Contains known one → HasKeyOf es ss c one earlier hs
      → has_key accepted (key_between es ss c earlier later hs) ≡ one.is_accepted
  known_answer accepted known one earlier later hs all there has =
      ap (has_key accepted) (sym (known_alike one earlier later hs has)) ∙ All-contains (IsKnown accepted es ss c later) known one all there

  -- a key that is used already is not added again
  adds_within : (P : List ℕ → Type 0) (used : Accepted) → ((key : List ℕ) → P key → has_key used key ≡ true) → AddsKeys P used used
  adds_within P used there key = (
    λ has. inl has,
    λ either. elim either [
      | inl has ↦ has
      | inr p ↦ there key p
    ],
  )

  pub used_already : (accepted used : Accepted) (known : List Known) (one : Known) (earlier later : ℕ) (hs : Hazards) → earlier < later → KnownConflict c.members.items earlier later
      → AreHazardsBetween c.members.items earlier later hs → All (IsSettled accepted es ss c later used) known → Contains known one → HasKeyOf es ss c one earlier hs
      → AddsKeys (IsUsedPair accepted es ss c earlier later) used used
  used_already accepted used known one earlier later hs lt conflict are all there has =
      let settled : IsSettled accepted es ss c later used one = All-contains (IsSettled accepted es ss c later used) known one all there in
      adds_within (IsUsedPair accepted es ss c earlier later) used
      (λ key pair.
      let same : key ≡ key_of_known es ss c later one =
      one_key es ss c earlier later key (key_between es ss c earlier later hs) pair.1 (own_key earlier later hs lt conflict are) ∙ sym (known_alike one earlier later hs has) in
      ap (has_key used) same ∙ settled (ap (has_key accepted) (sym same) ∙ pair.0))

  -- the key of two entries that conflict is that of their hazards
  pub used_pair : (accepted old new : Accepted) (earlier later : ℕ) (hs : Hazards) → earlier < later → KnownConflict c.members.items earlier later → AreHazardsBetween c.members.items earlier later hs
      → AddsKeys (λ key. (key ≡ key_between es ss c earlier later hs) × (has_key accepted key ≡ true)) old new → AddsKeys (IsUsedPair accepted es ss c earlier later) old new
  used_pair accepted old new earlier later hs lt conflict are adds =
      adds_same (λ key. (key ≡ key_between es ss c earlier later hs) × (has_key accepted key ≡ true)) (IsUsedPair accepted es ss c earlier later) old new
      (λ key. (
        λ both. (both.1, subst (IsWaitKey es ss c earlier later) (sym both.0) (own_key earlier later hs lt conflict are)),
        λ pair. (one_key es ss c earlier later key (key_between es ss c earlier later hs) pair.1 (own_key earlier later hs lt conflict are), pair.0),
      )) adds

  -- what is settled stays so, and so is what was looked up and added
  pub settled_more : (accepted old new : Accepted) (earlier later : ℕ) (hs : Hazards) (known more : List Known) → Remembers (looked_up accepted es ss c earlier later hs) known more
      → AddsKeys (λ key. (key ≡ key_between es ss c earlier later hs) × (has_key accepted key ≡ true)) old new → All (IsSettled accepted es ss c later old) known → All (IsSettled accepted es ss c later new) more
  settled_more accepted old new earlier later hs known more is adds all =
      remembered (IsSettled accepted es ss c later new) (looked_up accepted es ss c earlier later hs) known more is
      (λ k one lt has. (adds (key_of_known es ss c later (get_or known k one))).1 (inl (all k one lt has)))
      (λ has. (adds (key_between es ss c earlier later hs)).1 (inr (refl, has)))
