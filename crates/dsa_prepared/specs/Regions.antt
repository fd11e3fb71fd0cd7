-- Regions of memory, and where a relocation puts their addresses.
use Rattle.std.specs.Prelude.{ℕ, ◌+◌, ◌-◌, ◌<◌, ◌≤◌, ⊤, Bool, List, [], ◌∷◌, ◌⊎◌, ◌&&◌, map, nat_le, nat_lt, if◌then◌else◌}
use Rattle.std.specs.List.{AllByRecursion}
use Rattle.dsa_descriptor.specs.Descriptors.{fields}
use Rattle.dsa_descriptor.specs.Fields.{Fields}
use Rattle.dsa_descriptor.specs.Data.{sources, targets}
use Rattle.dsa_splitter.specs.Operations.{IsSplittable}
use Rattle.dsa_splitter.specs.Pieces.{row_span}
use Rattle.dsa_ranges.specs.Ranges.{read_spans, written_spans}
use Rattle.dsa_operations.specs.declared.operation.Operation.{Operation}
use Rattle.dsa_operations.specs.declared.operation.Operation.TheVariants as operation
use Rattle.dsa_operations.specs.Operations.{reads_of, writes_of}
use Rattle.dsa_descriptor.specs.declared.span.Span.{Span}
use Rattle.dsa_descriptor.specs.Spans.{span, InSome, ApartFrom}

-- the `len` addresses from `base` on become those from `new_base` on (regions, bases and relocation are the words of
-- linkers; that a relocation is a list of regions is this project's choice)
pub record Region : Type 0 where
  pub base : ℕ
  pub len : ℕ
  pub new_base : ℕ

-- the region's addresses before relocation and after
abbrev pub base_span : Region → Span
base_span r = span r.base r.len

-- the region's addresses after relocation
abbrev pub new_span : Region → Span
new_span r = span r.new_base r.len

-- the span has the address
unfoldable pub has_address : Span → ℕ → Bool
has_address s address = nat_le s.first address && nat_lt address (s.first + s.len)

-- the relocated address: at the same offset from the new base of the region that has it; an address in no region stays
abbrev pub relocated : List Region → ℕ → ℕ
relocated [] address = address
relocated (r ∷ rs) address = if has_address (base_span r) address then r.new_base + (address - r.base) else relocated rs address

-- one of the regions has the address
abbrev pub HasAddress : List Region → ℕ → Type 0
HasAddress rs address = InSome (map base_span rs) address

-- no two of them have an address in common, before or after
abbrev pub AreDisjoint : List Region → Type 0
AreDisjoint [] = ⊤
AreDisjoint (r ∷ rs) = ApartFrom (base_span r) (map base_span rs) × ApartFrom (new_span r) (map new_span rs) × AreDisjoint rs

-- ---- spans that lie in regions, by their addresses before relocation

-- the span begins in the region, and does not go past its end; so an empty span, as a delta record of 0 bytes, lies in at
-- most one region
abbrev pub LiesIn : Span → Span → Type 0
LiesIn r s = (r.first ≤ s.first) × (s.first < r.first + r.len) × (s.first + s.len ≤ r.first + r.len)

-- the span lies in one of them
abbrev pub LiesInOne : List Span → Span → Type 0
LiesInOne [] s = ⊥
LiesInOne (r ∷ rs) s = LiesIn r s ⊎ LiesInOne rs s

-- each span that the descriptor reads or writes lies in one
abbrev pub LieInOne : List Span → Fields → Type 0
LieInOne rs f = AllByRecursion (LiesInOne rs) (read_spans f) × AllByRecursion (LiesInOne rs) (written_spans f)

-- the same of each descriptor of a list
abbrev pub AllLieInOne : List Span → List Fields → Type 0
AllLieInOne rs fs = AllByRecursion (LieInOne rs) fs

-- an operation that is split into pieces of at most `greatest` bytes has each whole range, and the row of the pieces'
-- records, in one region; and a delta is one piece
pub record LiesWhole (rs : List Span) (greatest : ℕ) (f : Fields) : Type 0 where
  pub from : AllByRecursion (LiesInOne rs) (sources f.op f.size)
  pub into : AllByRecursion (LiesInOne rs) (targets f.op f.size)
  pub row : LiesInOne rs (row_span f greatest)
  pub splittable : IsSplittable f.op f.size greatest

-- ---- operations of a list that may have checksums

-- each span that a piece reads or writes lies in one
abbrev pub PieceLies : List Span → Operation → Type 0
PieceLies rs piece = AllByRecursion (LiesInOne rs) (reads_of piece) × AllByRecursion (LiesInOne rs) (writes_of piece)

-- the same of each piece of a list
abbrev pub AllPiecesLie : List Span → List Operation → Type 0
AllPiecesLie rs pieces = AllByRecursion (PieceLies rs) pieces

-- an operation has each whole range, and the row of the records of its pieces, in one region; a checksum is one piece
abbrev pub OperationLies : List Span → ℕ → Operation → Type 0
OperationLies rs greatest (operation.Descriptor d) = LiesWhole rs greatest (fields d)
OperationLies rs greatest (operation.Checksum c) = PieceLies rs (operation.Checksum c)

-- a descriptor that is split into pieces of at most `greatest` bytes can be; no checksum is split
abbrev pub IsOneOrSplittable : ℕ → Operation → Type 0
IsOneOrSplittable greatest (operation.Descriptor d) = IsSplittable d.op d.size greatest
IsOneOrSplittable greatest (operation.Checksum c) = ⊤
