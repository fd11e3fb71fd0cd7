-- A prepared submission as an array of rows of ten words each, which can be copied, shared and kept in a file (this
-- project's choice). The rows are, in this order: the header, the regions, the ties, the entries of the portal, the entries
-- of the staging area.
use Rattle.std.specs.Prelude.{◌≡◌, ⊤, ℕ, ◌+◌, ◌-◌, ◌^◌, ◌<◌, ◌≤◌, ◌↔◌, ◌==◌, List, [], ◌∷◌, ◌++◌, drop, length, map, slice_index, slice_index_or, take, if◌then◌else◌}
use Rattle.std.specs.Int.{w64, from_le_bytes, to_le_bytes}
use Rattle.dsa_descriptor.specs.declared.span.Span.{Span}
use Rattle.dsa_descriptor.specs.Pieces.{most_pieces}
use Rattle.dsa_descriptor.specs.Spans.{span}
use Rattle.dsa_prepared.specs.declared.entry.Entry.{Entry}
use Rattle.dsa_prepared.specs.declared.reading.Bounds.{Bounds}
use Rattle.dsa_prepared.specs.declared.row.Origins.{Origins}
use Rattle.dsa_prepared.specs.declared.row.Row.{Row}
use Rattle.dsa_prepared.specs.declared.tie.Tie.{Tie}
use Rattle.dsa_prepared.specs.declared.word.Word.{Word}
use Rattle.dsa_prepared.specs.declared.word.Word.TheVariants.{InRegion, InStaging, Fixed}
use Rattle.dsa_prepared.specs.Entries.{word_value}
use Rattle.dsa_prepared.specs.Sound.{HasValue, IsSound, IsWithin}
use Rattle.dsa_prepared.specs.Templates.{Template, template}

-- ---- reading

-- the row's word of that number, from 0
abbrev pub word_of : Row → ℕ → ℕ
word_of row k = slice_index row.words k

-- the row of that number
abbrev pub row_at : List Row → ℕ → Row
row_at rows k = slice_index_or rows k (record { words = [] })

-- a region: its first address, its length, and its unit
abbrev pub region_in : Row → Span
region_in row = span (word_of row 0) (word_of row 1)

-- its unit
abbrev pub unit_in : Row → ℕ
unit_in row = word_of row 2

-- a tie: a region and an offset in it, twice
abbrev pub tie_in : Row → Tie
tie_in row = record { region = word_of row 0; offset = word_of row 1; other = word_of row 2; other_offset = word_of row 3 }

-- a kind and a value: 0 for a number, 1 for an offset in the staging area, and 2 + r for an offset in region r
abbrev pub word_in : ℕ → ℕ → Word
word_in kind value = if kind == 0 then Fixed value else if kind == 1 then InStaging value else InRegion (kind - 2) value

-- an entry: bytes 0 to 7, and 32 to 39, as numbers; then kind and value of bytes 8 to 15, 16 to 23, 24 to 31, and 40 to 47
abbrev pub entry_in : Row → Entry
entry_in row =
    record {
      head = to_le_bytes w64 (word_of row 0);
      completion = word_in (word_of row 2) (word_of row 3);
      first = word_in (word_of row 4) (word_of row 5);
      second = word_in (word_of row 6) (word_of row 7);
      middle = to_le_bytes w64 (word_of row 1);
      own = word_in (word_of row 8) (word_of row 9);
    }

-- the header's word of that number: 0 the magic number, 1 to 4 how many regions, ties, entries of the portal and entries of
-- the staging area there are, 5 and 6 the batches and the pieces
abbrev pub header_word : List Row → ℕ → ℕ
header_word rows k = word_of (slice_index_or rows 0 (record { words = [] })) k

-- so many rows from a place on
abbrev pub part : List Row → ℕ → ℕ → List Row
part rows start count = take count (drop start rows)

-- where the rows of the ties begin
abbrev pub ties_at : List Row → ℕ
ties_at rows = 1 + header_word rows 1

-- where the rows of the portal's entries begin
abbrev pub portal_at : List Row → ℕ
portal_at rows = ties_at rows + header_word rows 2

-- where the rows of the staging area's entries begin
abbrev pub staging_at : List Row → ℕ
staging_at rows = portal_at rows + header_word rows 3

-- the rows of the regions
abbrev pub region_rows : List Row → List Row
region_rows rows = part rows 1 (header_word rows 1)

-- the rows of the ties
abbrev pub tie_rows : List Row → List Row
tie_rows rows = part rows (ties_at rows) (header_word rows 2)

-- the rows of the portal's entries
abbrev pub portal_rows : List Row → List Row
portal_rows rows = part rows (portal_at rows) (header_word rows 3)

-- the rows of the staging area's entries
abbrev pub staging_rows : List Row → List Row
staging_rows rows = part rows (staging_at rows) (header_word rows 4)

-- the template that rows say
abbrev pub template_in : List Row → Template
template_in rows =
    template (map region_in (region_rows rows)) (map unit_in (region_rows rows)) (map tie_in (tie_rows rows))
    (map entry_in (portal_rows rows)) (map entry_in (staging_rows rows)) (header_word rows 5) (header_word rows 6)

-- "DSAPREP1" as bytes of a little-endian number; the last of them is the version of the layout
abbrev pub magic : ℕ
magic = 0x3150455250415344

-- the header fits the number of rows, and has no more entries, batches and pieces than there may be
pub record HaveHeader (rows : List Row) : Type 0 where
  pub magic : header_word rows 0 ≡ magic
  pub count : staging_at rows + header_word rows 4 ≡ length rows
  pub few_entries : header_word rows 3 ≤ most_pieces
  pub few_staged : header_word rows 4 ≤ most_pieces
  pub few_batches : header_word rows 5 ≤ most_pieces
  pub few : header_word rows 6 ≤ most_pieces

-- the rows say a template that can be filled: each unit is 1, 8 or 32, and each offset lies in its region or in the staging
-- area. Words that are not read may be any.
pub record ArePrepared (rows : List Row) : Type 0 where
  pub header : HaveHeader rows
  pub sound : IsSound (template_in rows)

-- words of this kind may have values up to `last` (only private clauses cite this and what follows)
abbrev pub IsBound : List Span → ℕ → ℕ → Type 0
IsBound rs kind last = (value : ℕ) → value < 2 ^ 64 → (IsWithin rs (word_in kind value) ↔ (value ≤ last))

-- those of the words of an entry
pub record AreBounds (rs : List Span) (b : Bounds) : Type 0 where
  pub completion : IsBound rs b.completion.kind b.completion.last
  pub first : IsBound rs b.first.kind b.first.last
  pub second : IsBound rs b.second.kind b.second.last
  pub own : IsBound rs b.own.kind b.own.last

-- ---- filling

-- words of this kind count from `origin`: a region's base, the staging area's address, or 0
abbrev pub IsOrigin : List ℕ → ℕ → ℕ → ℕ → Type 0
IsOrigin bases staging kind origin =
    (value : ℕ) → HasValue bases staging (word_in kind value) → word_value bases staging (word_in kind value) ≡ origin + value

-- those of the words of an entry, but for the operation's own
pub record AreOrigins (bases : List ℕ) (staging : ℕ) (o : Origins) : Type 0 where
  pub completion : IsOrigin bases staging o.completion.kind o.completion.origin
  pub first : IsOrigin bases staging o.first.kind o.first.origin
  pub second : IsOrigin bases staging o.second.kind o.second.origin

-- the words of the row's entry, but for the operation's own, are of these kinds
pub record HasKinds (row : Row) (o : Origins) : Type 0 where
  pub completion : word_of row 2 ≡ o.completion.kind
  pub first : word_of row 4 ≡ o.first.kind
  pub second : word_of row 6 ≡ o.second.kind

-- ---- writing

-- the row of a region and its unit
abbrev pub region_row : Span → ℕ → Row
region_row region unit = record { words = region.first ∷ region.len ∷ unit ∷ 0 ∷ 0 ∷ 0 ∷ 0 ∷ 0 ∷ 0 ∷ 0 ∷ [] }

-- the row of a tie
abbrev pub tie_row : Tie → Row
tie_row tie = record { words = tie.region ∷ tie.offset ∷ tie.other ∷ tie.other_offset ∷ 0 ∷ 0 ∷ 0 ∷ 0 ∷ 0 ∷ 0 ∷ [] }

-- the kind and the value of a word
abbrev pub kind_of : Word → ℕ
kind_of (InRegion region offset) = region + 2
kind_of (InStaging offset) = 1
kind_of (Fixed value) = 0

-- the value of a word
abbrev pub value_of : Word → ℕ
value_of (InRegion region offset) = offset
value_of (InStaging offset) = offset
value_of (Fixed value) = value

-- a kind can say the region's number
abbrev pub IsNumbered : Word → Type 0
IsNumbered (InRegion region offset) = region + 2 < 2 ^ 64
IsNumbered (InStaging offset) = ⊤
IsNumbered (Fixed value) = ⊤

-- the regions of all words of an entry can be said by a kind
pub record AreNumbered (e : Entry) : Type 0 where
  pub completion : IsNumbered e.completion
  pub first : IsNumbered e.first
  pub second : IsNumbered e.second
  pub own : IsNumbered e.own

-- the row of an entry
abbrev pub entry_row : Entry → Row
entry_row e =
    record {
      words = from_le_bytes w64 e.head ∷ from_le_bytes w64 e.middle
          ∷ kind_of e.completion ∷ value_of e.completion ∷ kind_of e.first ∷ value_of e.first
          ∷ kind_of e.second ∷ value_of e.second ∷ kind_of e.own ∷ value_of e.own ∷ [];
    }

-- the first row
abbrev pub header_row : Template → Row
header_row t =
    record {
      words = magic ∷ length t.regions ∷ length t.ties ∷ length t.portal ∷ length t.staging ∷ t.batches ∷ t.pieces
          ∷ 0 ∷ 0 ∷ 0 ∷ [];
    }

-- each region with its unit
abbrev pub region_rows_of : List Span → List ℕ → List Row
region_rows_of [] units = []
region_rows_of (region ∷ regions) [] = []
region_rows_of (region ∷ regions) (unit ∷ units) = region_row region unit ∷ region_rows_of regions units

-- the rows of a template
abbrev pub rows_of : Template → List Row
rows_of t =
    header_row t ∷ (region_rows_of t.regions t.units ++ (map tie_row t.ties ++ (map entry_row t.portal ++ map entry_row t.staging)))
