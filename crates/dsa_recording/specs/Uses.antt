-- Which accepted keys are used, and which lines with keys are stale (this project's choice).
use Rattle.std.specs.Prelude.{ℕ, ◌≡◌, ◌<◌, ◌≤◌, ◌↔◌, ◌⊎◌, ◌+◌, ◌++◌, ◌&&◌, ◌||◌, ◌==◌, not, nat_le, Bool, true, false, List, [], ◌∷◌, codes, get_or, length, string_bytes, String, if◌then◌else◌}
use Rattle.std.specs.List.{starts_with}
use Rattle.std.specs.Global.{Global}
use Rattle.dsa_audit.specs.declared.hazard.Hazards.{Hazards}
use Rattle.dsa_settings.specs.Plan.{Group}
use Rattle.dsa_audit.specs.Audits.{HasFence, ShareEpoch}
use Rattle.dsa_audit.specs.Members.{AreHazardsBetween}
use Rattle.dsa_audit.specs.Repeats.{OrderMatters}
use Rattle.dsa_recording.specs.declared.accepted.Accepted.{Accepted}
use Rattle.dsa_recording.specs.declared.answer.AuditOptions.{AuditOptions}
use Rattle.dsa_recording.specs.declared.detail.Detail.{Detail}
use Rattle.dsa_recording.specs.declared.findings.Finding.{Finding}
use Rattle.dsa_recording.specs.declared.stream.Submission.{Submission}
use Rattle.dsa_recording.specs.declared.submission.Audited.{Audited}
use Rattle.dsa_recording.specs.Details.{IsDetail}
use Rattle.dsa_recording.specs.EntryKeys.{fence_key}
use Rattle.dsa_recording.specs.Keys.{key_words}
use Rattle.dsa_recording.specs.Pairs.{has_key}
use Rattle.dsa_recording.specs.Reports.{Reported}
use Rattle.dsa_recording.specs.Submissions.{members_in}
use Rattle.dsa_recording.specs.Words.{is_error, severity_of}

-- ---- keys that are used

-- of an audited submission whose members have these entries the key takes a pair out of those that need a fence: the order
-- of the two matters, no recorded fence separates them, and this is their key
pub record TakesOut (es : List (List ℕ)) (a : Audited) (key : List ℕ) : Type 0 where
  pub earlier : ℕ
  pub later : ℕ
  pub before : earlier < later
  pub within : later < length a.operands.items
  pub matters : OrderMatters a.actions.items a.operands.items earlier later
  pub unseparated : ShareEpoch a.fences.items earlier later
  pub hazards : Hazards
  pub are : AreHazardsBetween a.operands.items earlier later hazards
  pub key_is : key ≡ fence_key es earlier later hazards

-- it takes one out of some submission
abbrev pub TakesSomeOut : List (List ℕ) → List Submission → List Audited → List ℕ → Type 0
TakesSomeOut es [] audits key = ⊥
TakesSomeOut es (s ∷ ss) [] key = ⊥
TakesSomeOut es (s ∷ ss) (a ∷ audits) key = TakesOut (members_in es s) a key ⊎ TakesSomeOut es ss audits key

-- a finding with this key is an error, if the key is not accepted
abbrev pub Excuses : AuditOptions → List (List ℕ) → Reported → Finding → List ℕ → Type 0
Excuses options es r f key =
    (is_error (severity_of options.denied f.kind) ≡ true) × ((d : Detail) × IsDetail es r f d × (key ≡ key_words es d))

-- some finding is
abbrev pub ExcusesSome : AuditOptions → List (List ℕ) → Reported → List Finding → List ℕ → Type 0
ExcusesSome options es r [] key = ⊥
ExcusesSome options es r (f ∷ fs) key = Excuses options es r f key ⊎ ExcusesSome options es r fs key

-- the key is one that is accepted, and is used in the report on these entries: it takes a pair out, whether a finding shows it
-- or not, or it is that of a finding which is an error without it
abbrev pub IsUsed : AuditOptions → List (List ℕ) → Reported → List ℕ → Type 0
IsUsed options es r key =
    ((has_key options.accepted.now key ≡ true) × TakesSomeOut es r.submissions r.audits key)
    ⊎ ((has_key options.accepted.now key ≡ true) × ExcusesSome options es r r.findings key)

-- these are the keys that are used
abbrev pub AreUsed : AuditOptions → List (List ℕ) → Reported → Accepted → Type 0
AreUsed options es r used = (key : List ℕ) → (has_key used key ≡ true) ↔ IsUsed options es r key

-- ---- lines that are stale

-- a line is a key if it begins with a letter from a to z, as all keys do; other lines are comments
abbrev pub is_key_line : List ℕ → Bool
is_key_line [] = false
is_key_line (c ∷ cs) = nat_le 97 c && nat_le c 122

-- it is looked for in an audit: it is a key, and none of a missing wait where no events are given
abbrev pub is_looked_for : Bool → List ℕ → Bool
is_looked_for with_events line =
    is_key_line line && (with_events || not (starts_with (λ a b. a == b) line (codes "missing wait")))

-- the number of a line, if it is looked for and not used
abbrev pub stale_line : ℕ → Bool → Accepted → List ℕ → List ℕ
stale_line n with_events used line =
    if is_looked_for with_events line then (if has_key used line then [] else n ∷ []) else []

-- the numbers of all such lines, in order; the first line has this number
abbrev pub stale_from : ℕ → Bool → Accepted → List (String Global) → List ℕ
stale_from n with_events used [] = []
stale_from n with_events used (line ∷ lines) =
    stale_line n with_events used (string_bytes line) ++ stale_from (n + 1) with_events used lines

-- ---- for private clauses

-- these keys, and those that are used besides
abbrev pub AddsKeys : (List ℕ → Type 0) → Accepted → Accepted → Type 0
AddsKeys P old new = (key : List ℕ) → (has_key new key ≡ true) ↔ ((has_key old key ≡ true) ⊎ P key)

-- the two members need a fence that is not there: their order matters, and no recorded fence separates them
abbrev pub NeedFence : Audited → ℕ → ℕ → Type 0
NeedFence a i j = (i < j) × (j < length a.operands.items) × OrderMatters a.actions.items a.operands.items i j × ShareEpoch a.fences.items i j

-- an accepted key takes a pair out of the submission
abbrev pub TakesAcceptedOut : Accepted → List (List ℕ) → Audited → List ℕ → Type 0
TakesAcceptedOut accepted es a key = (has_key accepted key ≡ true) × TakesOut es a key

-- these two members
abbrev pub TakesPairOut : Accepted → List (List ℕ) → Audited → ℕ → ℕ → List ℕ → Type 0
TakesPairOut accepted es a i j key =
    (has_key accepted key ≡ true) × ((t : TakesOut es a key) × (t.earlier ≡ i) × (t.later ≡ j))

-- member j, with one of the first n of these
abbrev pub TakesFirstOut : Accepted → List (List ℕ) → Audited → List ℕ → ℕ → ℕ → List ℕ → Type 0
TakesFirstOut accepted es a members n j key = (k : ℕ) × (k < n) × TakesPairOut accepted es a (get_or members k 0) j key

-- member j, with any
abbrev pub TakesLaterOut : Accepted → List (List ℕ) → Audited → ℕ → List ℕ → Type 0
TakesLaterOut accepted es a j key = (has_key accepted key ≡ true) × ((t : TakesOut es a key) × (t.later ≡ j))

-- one of the members before j
abbrev pub TakesBelowOut : Accepted → List (List ℕ) → Audited → ℕ → List ℕ → Type 0
TakesBelowOut accepted es a j key = (has_key accepted key ≡ true) × ((t : TakesOut es a key) × (t.later < j))

-- the epoch of member k as recorded begins with member `epoch`
abbrev pub IsEpochOf : Group → ℕ → ℕ → Type 0
IsEpochOf g k epoch = (epoch ≤ k) × ShareEpoch g epoch k × (0 < epoch → HasFence g epoch)

-- that of the member before it does, if there is one
abbrev pub IsEpochBefore : Group → ℕ → ℕ → Type 0
IsEpochBefore g k epoch =
    (epoch ≤ k) × ((m : ℕ) → epoch < m → m < k → ¬ HasFence g m) × (0 < epoch → HasFence g epoch)
