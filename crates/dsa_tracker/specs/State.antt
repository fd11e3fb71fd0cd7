-- What the words of a tracker show, and what holds of them. Private clauses alone cite these.
use Rattle.std.specs.Prelude.{◌≡◌, ◌==◌, ℕ, ◌*◌, ◌^◌, ◌<◌, ◌≤◌, ◌↔◌, List, Option, Some, None, length, map, slice_index, if◌then◌else◌}
use Rattle.std.specs.List.{range_with_len}
use Rattle.std.specs.Int.{bit_at}
use Rattle.dsa_tracker.specs.declared.board.Board.{Board}
use Rattle.dsa_tracker.specs.declared.grid.Shape.{Shape}
use Rattle.dsa_tracker.specs.declared.slots.Slots.{Slots}
use Rattle.dsa_tracker.specs.Finding.{AreCovered, reads_store, writes_store}
use Rattle.dsa_tracker.specs.Kept.{kept}
use Rattle.dsa_tracker.specs.Sets.{Has, IsEmpty}
use Rattle.dsa_tracker.specs.Table.{Outstanding}

-- the set that the word of a slot is
abbrev pub waits_of : List ℕ → ℕ → Slots
waits_of waits s = record { 0 = slice_index waits s }

-- what the words of a slot keep
abbrev pub kept_at : ℕ → List ℕ → List ℕ → ℕ → Outstanding
kept_at width waits stores s =
    record { reads = kept (reads_store width stores s); writes = kept (writes_store width stores s); waits = waits_of waits s }

-- what a slot shows: that, if it is outstanding
abbrev pub shown : ℕ → Board → List ℕ → List ℕ → ℕ → Option Outstanding
shown width board waits stores s = if bit_at board.outstanding.0 s == 1 then Some (kept_at width waits stores s) else None

-- what all slots show
abbrev pub all_shown : ℕ → Board → List ℕ → List ℕ → List (Option Outstanding)
all_shown width board waits stores = map (shown width board waits stores) (range_with_len 0 (length waits))

-- what memory safety rests on, and a few words show: there are at most 64 slots, each with its stores; only slots are
-- outstanding, and only outstanding ones blocked
pub record IsShaped (board : Board) (waits stores rows : List ℕ) (shape : Shape) : Type 0 where
  pub few : length waits ≤ 64
  pub wide : 0 < shape.width
  pub stored : length stores ≡ 2 * length waits * shape.width
  pub sized : length rows ≡ 2 * 2 ^ shape.grid.log2_rows
  pub within : (s : ℕ) → Has board.outstanding s → s < length waits
  pub held : (s : ℕ) → Has board.blocked s → Has board.outstanding s

-- and what answers rest on: just those are blocked that wait, and the rows cover what is outstanding
pub record IsState (board : Board) (waits stores rows : List ℕ) (shape : Shape) : Type 0 where
  pub shaped : IsShaped board waits stores rows shape
  pub blocked : (s : ℕ) → Has board.blocked s ↔ (Has board.outstanding s × (¬ IsEmpty (waits_of waits s)))
  pub covered : AreCovered shape.width stores shape.grid rows board.wide board.outstanding
