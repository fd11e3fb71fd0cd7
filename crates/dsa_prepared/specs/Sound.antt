-- What the code keeps of a prepared submission, so that filling it is safe. Only private clauses cite these.
use Rattle.std.specs.Prelude.{◌≡◌, ◌⊎◌, ⊤, ℕ, ◌+◌, ◌*◌, ◌^◌, ◌<◌, ◌≤◌, All, List, ◌++◌, drop, length, map, slice_get, slice_index, take, Some}
use Rattle.std.specs.List.{AllByRecursion}
use Rattle.dsa_descriptor.specs.declared.descriptor.Descriptor.{Descriptor}
use Rattle.dsa_descriptor.specs.declared.span.Span.{Span}
use Rattle.dsa_descriptor.specs.Descriptors.{fields}
use Rattle.dsa_descriptor.specs.Pieces.{most_pieces}
use Rattle.dsa_settings.specs.Plan.{Group, Plan, piece_count}
use Rattle.dsa_settings.specs.Settings.{Limits}
use Rattle.dsa_splitter.specs.Pieces.{all_pieces}
use Rattle.dsa_splitter.specs.Rules.{IsSplit}
use Rattle.dsa_operations.specs.declared.operation.Operation.{Operation}
use Rattle.dsa_prepared.specs.declared.word.Word.{Word}
use Rattle.dsa_prepared.specs.declared.word.Word.TheVariants.{InRegion, InStaging, Fixed}
use Rattle.dsa_prepared.specs.declared.entry.Entry.{Entry}
use Rattle.dsa_prepared.specs.declared.tie.Tie.{Tie}
use Rattle.dsa_prepared.specs.Entries.{filled}
use Rattle.dsa_prepared.specs.Regions.{AllPiecesLie, IsOneOrSplittable, OperationLies}
use Rattle.dsa_prepared.specs.Templates.{Template}
use Rattle.dsa_prepared.specs.Preparing.{region_at}

-- the word has a value below 2^64 for these bases
abbrev pub HasValue : List ℕ → ℕ → Word → Type 0
HasValue bases staging (InRegion region offset) = (region < length bases) × (slice_index bases region + offset < 2 ^ 64)
HasValue bases staging (InStaging offset) = staging + offset < 2 ^ 64
HasValue bases staging (Fixed value) = ⊤

-- so has each word of the entry
pub record HasValues (bases : List ℕ) (staging : ℕ) (e : Entry) : Type 0 where
  pub completion : HasValue bases staging e.completion
  pub first : HasValue bases staging e.first
  pub second : HasValue bases staging e.second
  pub own : HasValue bases staging e.own

-- the word's offset lies in its region, or below 2^23, which no staging area reaches: that of 65,536 pieces has 6,291,456
-- bytes
abbrev pub IsWithin : List Span → Word → Type 0
IsWithin rs (InRegion region offset) = (region < length rs) × (offset < (region_at rs region).len)
IsWithin rs (InStaging offset) = offset < 2 ^ 23
IsWithin rs (Fixed value) = ⊤

-- the offsets of all words of an entry are within their bounds
pub record AreWithin (rs : List Span) (e : Entry) : Type 0 where
  pub completion : IsWithin rs e.completion
  pub first : IsWithin rs e.first
  pub second : IsWithin rs e.second
  pub own : IsWithin rs e.own

-- the same of a tie
pub record IsTieWithin (rs : List Span) (tie : Tie) : Type 0 where
  pub region : tie.region < length rs
  pub offset : tie.offset < (region_at rs tie.region).len
  pub other : tie.other < length rs
  pub other_offset : tie.other_offset < (region_at rs tie.other).len

-- what regions may have to be aligned to
abbrev pub IsUnit : ℕ → Type 0
IsUnit unit = (unit ≡ 1) ⊎ (unit ≡ 8) ⊎ (unit ≡ 32)

-- each of these is a unit
abbrev pub AreUnits : List ℕ → Type 0
AreUnits units = (i : ℕ) → i < length units → IsUnit (slice_index units i)

-- a template that can be filled safely
pub record IsSound (t : Template) : Type 0 where
  pub unit_count : length t.units ≡ length t.regions
  pub units : AreUnits t.units
  pub ties : All (IsTieWithin t.regions) t.ties
  pub portal : All (AreWithin t.regions) t.portal
  pub staging : All (AreWithin t.regions) t.staging
  pub few_entries : length t.portal ≤ most_pieces
  pub few_staged : length t.staging ≤ most_pieces
  pub few_batches : t.batches ≤ most_pieces
  pub few : t.pieces ≤ most_pieces

-- ---- preparing

-- these are the pieces that the operations are split into
pub record IsSplitInto (s : Limits) (ds pieces : List Descriptor) : Type 0 where
  pub split : IsSplit s.greatest_transfer s.staging (map fields ds)
  pub pieces_are : map fields pieces ≡ all_pieces (map fields ds) s.greatest_transfer

-- each group has a piece
abbrev pub AreNonempty : Plan → Type 0
AreNonempty plan = (number : ℕ) (group : Group) → slice_get plan number ≡ Some group → 0 < length group

-- operations whose pieces, as they were planned, can be kept in regions where the operations lie
pub record CanBeKept (s : Limits) (operations pieces : List Operation) (plan : Plan) : Type 0 where
  pub splittable : All (IsOneOrSplittable s.greatest_transfer) operations
  pub lie :
      0 < s.greatest_transfer → (rs : List Span) → AllByRecursion (OperationLies rs s.greatest_transfer) operations →
      AllPiecesLie rs operations × AllPiecesLie rs pieces
  pub covers : piece_count plan ≡ length pieces
  pub few : length pieces ≤ most_pieces
  pub nonempty : AreNonempty plan

-- ---- filling

-- the first entries are in the buffer, and its rest is as before
pub record ArePut (bases : List ℕ) (staging : ℕ) (entries : List Entry) (k : ℕ) (before now : List ℕ) : Type 0 where
  pub bytes : now ≡ filled bases staging (take k entries) ++ drop (64 * k) before
  pub long : length (filled bases staging (take k entries)) ≡ 64 * k
