-- Pieces of any kind that share a completion record, so that it does not say how its own piece has ended. (That shared
-- records are refused is this project's choice.)
use Rattle.std.specs.Prelude.{◌≡◌, ◌⊎◌, ℕ, ◌<◌, ◌≤◌, List, [], ◌∷◌, length, Option, Some, None, slice_get, take, drop}
use Rattle.dsa_descriptor.specs.declared.span.Span.{Span}
use Rattle.dsa_descriptor.specs.Spans.{InSome, InSpan, span}
use Rattle.dsa_ranges.specs.Pieces.{PieceConflictAt}
use Rattle.dsa_resume.specs.declared.shared.Written.{Written}

-- the first of the spans that a piece writes, which is its completion record; an empty one, if it writes nothing
abbrev pub first_of : List Span → Span
first_of [] = span 0 0
first_of (s ∷ ss) = s

-- of two that write these spans, the first writes into the second one's completion record, with its data or its own record
abbrev pub WriteRecordOf : List Span → List Span → Type 0
WriteRecordOf written written' = (address : ℕ) × InSome written address × InSpan (first_of written') address

-- one of the two writes into the record of the other
abbrev pub ShareRecord : List Span → List Span → Type 0
ShareRecord written written' = WriteRecordOf written written' ⊎ WriteRecordOf written' written

-- the pieces at two places of a list do, by what each writes
abbrev pub SharesAt : {P : Type 0} → (P → List Span) → List P → ℕ → ℕ → Type 0
SharesAt {P} writes pieces i j =
    (p q : P) × (slice_get pieces i ≡ Some p) × (slice_get pieces j ≡ Some q) × ShareRecord (writes p) (writes q)

-- no two pieces share a record
abbrev pub NoneShare : {P : Type 0} → (P → List Span) → List P → Type 0
NoneShare writes pieces = (i j : ℕ) → i < j → ¬ SharesAt writes pieces i j

-- (i, j) has the least second piece of all pairs that share a record, and the greatest first piece with that second
pub record IsFirstShared {P : Type 0} (writes : P → List Span) (pieces : List P) (i j : ℕ) : Type 0 where
  pub before : i < j
  pub shares : SharesAt writes pieces i j
  pub least : (x y : ℕ) → x < y → SharesAt writes pieces x y → j ≤ y
  pub greatest : (x : ℕ) → x < j → SharesAt writes pieces x j → x ≤ i

-- i is the last piece before piece j that shares a record with it, or none does
abbrev pub IsLastShared : {P : Type 0} → (P → List Span) → List P → ℕ → Option ℕ → Type 0
IsLastShared writes pieces j None = (i : ℕ) → i < j → ¬ SharesAt writes pieces i j
IsLastShared writes pieces j (Some i) = (i < j) × SharesAt writes pieces i j × ((x : ℕ) → x < j → SharesAt writes pieces x j → x ≤ i)

-- for each piece that one
pub record HaveLastShared {P : Type 0} (writes : P → List Span) (pieces : List P) (lasts : List (Option ℕ)) : Type 0 where
  pub count : length lasts ≡ length pieces
  pub each : (j : ℕ) (last : Option ℕ) → slice_get lasts j ≡ Some last → IsLastShared writes pieces j last

-- ---- for private clauses

-- a pair, or none
abbrev pub FindsShared : {P : Type 0} → (P → List Span) → List P → Option (ℕ × ℕ) → Type 0
FindsShared writes pieces None = NoneShare writes pieces
FindsShared writes pieces (Some p) = IsFirstShared writes pieces p.0 p.1

-- the spans that a piece writes
abbrev pub spans_in : Written → List Span
spans_in w = w.spans.items

-- the completion record alone
abbrev pub record_in : Written → List Span
record_in w = take 1 w.spans.items

-- the data alone
abbrev pub data_in : Written → List Span
data_in w = drop 1 w.spans.items

-- those at two places conflict, as if each read the data and wrote the record
abbrev pub WrittenConflictAt : List Written → ℕ → ℕ → Type 0
WrittenConflictAt = PieceConflictAt data_in record_in

-- the first place that has an index, with that index; or no place has one
abbrev pub FindsFirst : List (Option ℕ) → Option (ℕ × ℕ) → Type 0
FindsFirst lasts None = (y : ℕ) (last : Option ℕ) → slice_get lasts y ≡ Some last → last ≡ None
FindsFirst lasts (Some p) = (slice_get lasts p.1 ≡ Some (Some p.0)) × ((y : ℕ) (last : Option ℕ) → y < p.1 → slice_get lasts y ≡ Some last → last ≡ None)
