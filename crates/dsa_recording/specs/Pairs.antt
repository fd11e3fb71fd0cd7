-- Pairs of members that are accepted: the key of a missing fence between them is (this project's choice).
use Rattle.std.specs.Prelude.{ℕ, ◌≡◌, ◌⊎◌, ◌<◌, ◌^◌, ◌/◌, ◌%◌, ◌==◌, Bool, true, false, List, ◌∷◌, ◌++◌, decimal, length}
use Rattle.std.specs.BTreeSet.{contains_text}
use Rattle.std.specs.Cmp.Lexicographic.{slice_cmp}
use Rattle.std.specs.List.{Contains}
use Rattle.std.specs.Ordering.{is_gt, nat_cmp}
use Rattle.std.specs.declared.cmp.Ordering.TheVariants.{Less}
use Rattle.dsa_audit.specs.declared.member.Member.{Member}
use Rattle.dsa_audit.specs.declared.hazard.Hazards.{Hazards}
use Rattle.dsa_audit.specs.Members.{AreHazardsBetween, KnownConflict}
use Rattle.dsa_recording.specs.declared.accepted.Accepted.{Accepted}
use Rattle.dsa_recording.specs.declared.assumptions.Assumptions.{Assumptions}
use Rattle.dsa_recording.specs.EntryKeys.{fence_key}

-- the key is accepted
abbrev pub has_key : Accepted → List ℕ → Bool
has_key accepted key = contains_text accepted.keys key

-- of members with these entries and data, two conflict, and the key of a missing fence between them, with all their hazards,
-- is accepted
abbrev pub IsListedPair : Accepted → List (List ℕ) → List Member → ℕ → ℕ → Type 0
IsListedPair accepted es ms earlier later =
    (earlier < later) × (later < length ms) × KnownConflict ms earlier later
    × ((hs : Hazards) × AreHazardsBetween ms earlier later hs × (has_key accepted (fence_key es earlier later hs) ≡ true))

-- what an audit rests on beside the recording: what is assumed of the software, and which keys are accepted
pub record Terms : Type 0 where
  pub accepted : Accepted
  pub assumptions : Assumptions

-- these two
abbrev pub terms : Accepted → Assumptions → Terms
terms accepted assumptions = record { accepted = accepted; assumptions = assumptions }

-- ---- for private clauses

-- the hazards of this number: a bit for each
abbrev pub hazards_by : ℕ → Hazards
hazards_by n = record { read_after_write = n % 2 == 1; write_after_write = n / 2 % 2 == 1; write_after_read = n / 4 % 2 == 1 }

-- in the order of texts by their bytes, the first is no later than the second
abbrev pub IsUpTo : List ℕ → List ℕ → Type 0
IsUpTo first second = is_gt (slice_cmp nat_cmp first second) ≡ false

-- the first is later
abbrev pub IsAbove : List ℕ → List ℕ → Type 0
IsAbove first second = slice_cmp nat_cmp second first ≡ Less

-- a key begins with `front`, and this text comes after it; it is the first such text from `rest` on
pub record IsFirstAfter (accepted : Accepted) (front rest text : List ℕ) : Type 0 where
  pub there : has_key accepted (front ++ text) ≡ true
  pub from : IsUpTo rest text
  pub first : (other : List ℕ) → has_key accepted (front ++ other) ≡ true → IsUpTo rest other → IsUpTo text other

-- no key begins with `front` so that a text from `rest` on comes after it
abbrev pub NoneAfter : Accepted → List ℕ → List ℕ → Type 0
NoneAfter accepted front rest = (other : List ℕ) → has_key accepted (front ++ other) ≡ true → ¬ IsUpTo rest other

-- the text has the number before a colon
abbrev pub HasNumber : List ℕ → ℕ → Type 0
HasNumber text n = (more : List ℕ) × (text ≡ decimal n ++ (58 ∷ more))

-- each text with a number that comes from `rest` on comes from `next` on too, or has the number that `rest` has
abbrev pub LeadsOn : List ℕ → List ℕ → Type 0
LeadsOn rest next = (n : ℕ) (other : List ℕ) → n < 2 ^ 64 → HasNumber other n → IsUpTo rest other → IsUpTo next other ⊎ HasNumber rest n

-- the numbers have those of before, and that of the text
abbrev pub Pushes : List ℕ → List ℕ → List ℕ → Type 0
Pushes text old new = ((n : ℕ) → Contains old n → Contains new n) × ((n : ℕ) → n < 2 ^ 64 → HasNumber text n → Contains new n)

-- the numbers have those of before, and each that a key has after the front
abbrev pub NamesAfter : Accepted → List ℕ → List ℕ → List ℕ → Type 0
NamesAfter accepted front old new =
    ((n : ℕ) → Contains old n → Contains new n)
    × ((n : ℕ) (more : List ℕ) → n < 2 ^ 64 → has_key accepted (front ++ (decimal n ++ (58 ∷ more))) ≡ true → Contains new n)

-- the members have each earlier one that an accepted key of a missing fence before member `later` names
abbrev pub NamesEach : Accepted → List (List ℕ) → ℕ → List ℕ → Type 0
NamesEach accepted es later found =
    (earlier : ℕ) (hs : Hazards) → earlier < 2 ^ 64 → has_key accepted (fence_key es earlier later hs) ≡ true → Contains found earlier
