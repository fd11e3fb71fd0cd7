-- Rows of bits.
use Rattle.std.specs.Prelude.{ℕ, ◌+◌, ◌*◌, ◌/◌, ◌%◌, ◌-◌, ◌^◌, ◌<◌, List, Bool, true, false, slice_index}
use Rattle.std.specs.Int.{bit_at}
use Rattle.dsa_tracker.specs.declared.grid.Grid.{Grid}

-- the row of a unit, by a factor that spreads units
abbrev pub key : ℕ → ℕ → ℕ → ℕ
key log2_rows factor unit = (unit * factor % 2 ^ 64) / 2 ^ (64 - log2_rows)

-- the bit of this slot is set in the word
abbrev pub Holds : List ℕ → ℕ → ℕ → Type 0
Holds rows k s = 0 < bit_at (slice_index rows k) s

-- the unit is marked for the slot on a side (0: it is touched, 1: it is written): the bit is set in both rows of the unit
abbrev pub IsMarked : Grid → List ℕ → ℕ → ℕ → ℕ → Type 0
IsMarked grid rows side unit s =
    Holds rows (2 * key grid.log2_rows 11400714819323198485 unit + side) s × Holds rows (2 * key grid.log2_rows 14029467366897019727 unit + side) s

-- the unit is marked for the slot where a conflict is sought with one that reads it, or that writes it
abbrev pub IsSought : Grid → List ℕ → Bool → ℕ → ℕ → Type 0
IsSought grid rows false unit s = IsMarked grid rows 1 unit s
IsSought grid rows true unit s = IsMarked grid rows 0 unit s

-- the unit is marked for a slot that reads it, or that writes it
abbrev pub IsNoted : Grid → List ℕ → Bool → ℕ → ℕ → Type 0
IsNoted grid rows false unit s = IsMarked grid rows 0 unit s
IsNoted grid rows true unit s = IsMarked grid rows 0 unit s × IsMarked grid rows 1 unit s
