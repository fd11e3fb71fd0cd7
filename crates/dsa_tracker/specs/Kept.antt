-- Spans that are kept in words: a count, and for each span its first and its last address. Private clauses alone cite these.
use Rattle.std.specs.Prelude.{ℕ, ◌+◌, ◌-◌, ◌*◌, ◌/◌, ◌<◌, ◌≤◌, List, min, length, map, slice_index, slice_range}
use Rattle.std.specs.List.{range_with_len}
use Rattle.dsa_descriptor.specs.declared.span.Span.{Span}
use Rattle.dsa_descriptor.specs.Spans.{InSome, InSpan}

-- how many spans the words hold
abbrev pub kept_count : List ℕ → ℕ
kept_count store = min (slice_index store 0) ((length store - 1) / 2)

-- the span of this index
abbrev pub kept_span : List ℕ → ℕ → Span
kept_span store i =
    record {
      first = slice_index store (1 + 2 * i);
      len = slice_index store (2 + 2 * i) + 1 - slice_index store (1 + 2 * i);
    }

-- all of them
abbrev pub kept : List ℕ → List Span
kept store = map (kept_span store) (range_with_len 0 (kept_count store))

-- one of the first spans has the address
abbrev pub InFirst : List ℕ → ℕ → ℕ → Type 0
InFirst store count a = (i : ℕ) × (i < count) × InSpan (kept_span store i) a

-- some kept span has an address from the first to the last
abbrev pub Touches : List ℕ → ℕ → ℕ → Type 0
Touches store first last = (a : ℕ) × (first ≤ a) × (a ≤ last) × InSome (kept store) a

-- some address is kept in both
abbrev pub Meet : List ℕ → List ℕ → Type 0
Meet store other = (a : ℕ) × InSome (kept store) a × InSome (kept other) a

-- the store of this place, of many that have so many words
abbrev pub store_at : ℕ → List ℕ → ℕ → List ℕ
store_at width stores place = slice_range stores (place * width) ((place + 1) * width)
