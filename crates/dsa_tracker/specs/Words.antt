-- A tracker in an array of 64-bit words: a head of 16 words, a word for each slot, the stores of each slot, and the rows; words
-- after these are nobody's. (The layout is this project's choice.)
use Rattle.std.specs.Prelude.{◌≡◌, ◌==◌, ℕ, ◌+◌, ◌*◌, ◌^◌, ◌<◌, ◌≤◌, List, Option, Some, None, drop, length, slice_index, take, if◌then◌else◌}
use Rattle.dsa_tracker.specs.declared.board.Board.{Board}
use Rattle.dsa_tracker.specs.declared.fault.TrackFault.{TrackFault}
use Rattle.dsa_tracker.specs.declared.fault.WordsFault.{WordsFault}
use Rattle.dsa_tracker.specs.declared.fault.WordsFault.TheVariants.{NotATracker, Track}
use Rattle.dsa_tracker.specs.declared.grid.Shape.{Shape}
use Rattle.dsa_tracker.specs.declared.owner.Owner.{Owner}
use Rattle.dsa_tracker.specs.Sets.{Has}
use Rattle.dsa_tracker.specs.State.{IsState, all_shown}
use Rattle.dsa_tracker.specs.Table.{Outstanding, Table}

-- the first word of each: the bytes of "dsatrack"
abbrev pub tracker_mark : ℕ
tracker_mark = 7738135728959353700

-- how many slots there are
abbrev pub slots_in : List ℕ → ℕ
slots_in words = slice_index words 1

-- how many spans a submission may read, and how many it may write
abbrev pub room_in : List ℕ → ℕ
room_in words = slice_index words 2

-- the number of rows, as a power of two
abbrev pub log2_rows_in : List ℕ → ℕ
log2_rows_in words = slice_index words 3

-- the addresses of a unit, as a power of two
abbrev pub log2_unit_in : List ℕ → ℕ
log2_unit_in words = slice_index words 4

-- the words of a store
abbrev pub width_in : List ℕ → ℕ
width_in words = 2 * room_in words + 1

-- which slots are outstanding, blocked, and have long spans
abbrev pub board_in : List ℕ → Board
board_in words =
    record {
      outstanding = record { 0 = slice_index words 5 };
      blocked = record { 0 = slice_index words 6 };
      wide = record { 0 = slice_index words 7 };
    }

-- the owner by three words: whether it is known, its PASID, and its privilege
abbrev pub owner_by : ℕ → ℕ → ℕ → Option Owner
owner_by known pasid privileged = if known == 1 then Some (record { pasid = pasid; privileged = privileged == 1 }) else None

-- the owner
abbrev pub owner_in : List ℕ → Option Owner
owner_in words = owner_by (slice_index words 8) (slice_index words 9) (slice_index words 10)

-- after the head, what each slot waits for
abbrev pub waits_in : List ℕ → List ℕ
waits_in words = take (slots_in words) (drop 16 words)

-- then the stores: what a slot reads, and what it writes, slot by slot
abbrev pub stores_in : List ℕ → List ℕ
stores_in words = take (2 * slots_in words * width_in words) (drop (slots_in words) (drop 16 words))

-- then the rows
abbrev pub rows_in : List ℕ → List ℕ
rows_in words =
    take (2 * 2 ^ log2_rows_in words) (drop (2 * slots_in words * width_in words) (drop (slots_in words) (drop 16 words)))

-- what slots show
abbrev pub shown_in : List ℕ → List (Option Outstanding)
shown_in words = all_shown (width_in words) (board_in words) (waits_in words) (stores_in words)

-- the table that the words show
abbrev pub table_in : List ℕ → Table
table_in words = record { slots = shown_in words; room = room_in words; owner = owner_in words }

-- how many words a tracker of these measures takes
abbrev pub words_needed : ℕ → ℕ → ℕ → ℕ
words_needed slots room log2_rows = 16 + slots + 2 * slots * (2 * room + 1) + 2 * 2 ^ log2_rows

-- the measures are in their ranges
abbrev pub AreMeasures : ℕ → ℕ → ℕ → ℕ → Type 0
AreMeasures slots room log2_rows log2_unit = (slots ≤ 64) × (room < 2 ^ 32) × (1 ≤ log2_rows) × (log2_rows ≤ 32) × (1 ≤ log2_unit) × (log2_unit ≤ 63)

-- only slots are outstanding, and only outstanding ones blocked
abbrev pub IsBoard : Board → ℕ → Type 0
IsBoard board slots = ((s : ℕ) → Has board.outstanding s → s < slots) × ((s : ℕ) → Has board.blocked s → Has board.outstanding s)

-- the words have the form of a tracker: what every call looks at, and all that its safety rests on
pub record IsShapedIn (words : List ℕ) : Type 0 where
  pub mark : slice_index words 0 ≡ tracker_mark
  pub measures : AreMeasures (slots_in words) (room_in words) (log2_rows_in words) (log2_unit_in words)
  pub enough : words_needed (slots_in words) (room_in words) (log2_rows_in words) ≤ length words
  pub pasid : slice_index words 9 < 2 ^ 32
  pub board : IsBoard (board_in words) (slots_in words)

-- the shape that the measures tell
abbrev pub IsShapeIn : List ℕ → Shape → Type 0
IsShapeIn words shape = (shape.width ≡ width_in words) × (shape.grid.log2_rows ≡ log2_rows_in words) × (shape.grid.log2_unit ≡ log2_unit_in words)

-- the words are a state of this shape
abbrev pub IsStateIn : List ℕ → Shape → Type 0
IsStateIn words shape = IsState (board_in words) (waits_in words) (stores_in words) (rows_in words) shape

-- the words are a tracker: they have the form, and also what answers rest on. `begin` makes them so, and each call leaves them so.
pub record IsTracker (words : List ℕ) : Type 0 where
  pub shaped : IsShapedIn words
  pub shape : Shape
  pub is_shape : IsShapeIn words shape
  pub state : IsStateIn words shape

-- a call is refused: the words have not the form, or else for one of these reasons
abbrev pub RefusesIn : List ℕ → WordsFault → (TrackFault → Type 0) → Type 0
RefusesIn words NotATracker against = ¬ IsShapedIn words
RefusesIn words (Track fault) against = IsShapedIn words × against fault
