-- Why a piece is fenced. `C a b` says that the pieces a and b conflict.
use Rattle.std.specs.Prelude.{ℕ, ◌≡◌, ◌+◌, ◌<◌, ◌≤◌, ◌⊎◌, List, All, AllPairs, Any, length, slice_get, Some}
use Rattle.dsa_descriptor.specs.declared.span.Span.{Span}
use Rattle.dsa_ranges.specs.Pieces.{PieceConflictAt}
use Rattle.dsa_settings.specs.Plan.{Group}
use Rattle.dsa_settings.specs.Legal.{IsFenced, ConflictsWithin}
use Rattle.dsa_ranges.specs.declared.hazards.Hazard.{Hazard}
use Rattle.dsa_ranges.specs.Hazards.{IsHazard}
use Rattle.dsa_reasons.specs.declared.reason.Reason.{Reason}

-- in a group that begins with piece `start`, the pieces a and b conflict, and the fence at piece k is the only one
-- between them
pub record NeedsFence (C : ℕ → ℕ → Type 0) (start : ℕ) (group : Group) (k a b : ℕ) : Type 0 where
  pub conflicts : ConflictsWithin C start (start + length group) a b
  pub before : a < k
  pub after : k ≤ b
  pub alone : (other : ℕ) → a < other → other ≤ b → IsFenced start group other → other ≡ k

-- the earlier and the later piece have this hazard at its address
pub record IsHazardOf {P : Type 0} (reads writes : P → List Span) (pieces : List P) (a b : ℕ) (h : Hazard) : Type 0 where
  pub earlier : P
  pub later : P
  pub earlier_is : slice_get pieces a ≡ Some earlier
  pub later_is : slice_get pieces b ≡ Some later
  pub hazard : IsHazard (reads earlier) (writes earlier) (reads later) (writes later) h.address h.kind

-- two pieces that need the fence at piece k, and where they conflict
pub record IsReason {P : Type 0} (reads writes : P → List Span) (pieces : List P) (start : ℕ) (group : Group) (k : ℕ) (r : Reason) : Type 0 where
  pub needs : NeedsFence (PieceConflictAt reads writes pieces) start group k r.earlier r.later
  pub hazard : IsHazardOf reads writes pieces r.earlier r.later r.hazard

-- the reason with the lesser later piece comes first, and for the same later piece the one with the greater earlier piece
abbrev pub ComesBefore : Reason → Reason → Type 0
ComesBefore r s = (r.later < s.later) ⊎ ((r.later ≡ s.later) × (s.earlier < r.earlier))

-- the reason is that of these two pieces
abbrev pub IsOfPair : ℕ → ℕ → Reason → Type 0
IsOfPair a b r = (r.earlier ≡ a) × (r.later ≡ b)

-- one for each pair of pieces that needs the fence at piece k, in that order
pub record AreReasonsFor {P : Type 0} (reads writes : P → List Span) (pieces : List P) (start : ℕ) (group : Group) (k : ℕ) (rs : List Reason) : Type 0 where
  pub each : All (IsReason reads writes pieces start group k) rs
  pub all : (a b : ℕ) → NeedsFence (PieceConflictAt reads writes pieces) start group k a b → Any (IsOfPair a b) rs
  pub order : AllPairs ComesBefore rs

-- ---- for private clauses

-- piece x of the group is before piece k, with no fence after it and before k
pub record IsReached (start : ℕ) (group : Group) (k x : ℕ) : Type 0 where
  pub begun : start ≤ x
  pub before : x < k
  pub open_between : (other : ℕ) → x < other → other < k → ¬ IsFenced start group other

-- no piece after k and before `end` is fenced
abbrev pub IsOpen : ℕ → Group → ℕ → ℕ → Type 0
IsOpen start group k end = (other : ℕ) → k < other → other < end → ¬ IsFenced start group other

-- the later piece is before `later`, or it is that piece and the earlier one is i or after it
abbrev pub IsSoFar : ℕ → ℕ → ℕ → ℕ → Type 0
IsSoFar later i a b = (b < later) ⊎ ((b ≡ later) × (i ≤ a))

-- the reason is one of those that were found up to there
pub record IsFoundSoFar {P : Type 0} (reads writes : P → List Span) (pieces : List P) (start : ℕ) (group : Group) (k later i : ℕ) (r : Reason) : Type 0 where
  pub reached : IsReached start group k r.earlier
  pub after : k ≤ r.later
  pub so_far : IsSoFar later i r.earlier r.later
  pub hazard : IsHazardOf reads writes pieces r.earlier r.later r.hazard

-- one for each pair of conflicting pieces so far, the earlier of which is such a piece, in the order of reasons
pub record HasReasonsSoFar {P : Type 0} (reads writes : P → List Span) (pieces : List P) (start : ℕ) (group : Group) (k later i : ℕ) (rs : List Reason) : Type 0 where
  pub each : All (IsFoundSoFar reads writes pieces start group k later i) rs
  pub all : (a b : ℕ) → IsReached start group k a → k ≤ b → IsSoFar later i a b → PieceConflictAt reads writes pieces a b → Any (IsOfPair a b) rs
  pub order : AllPairs ComesBefore rs
