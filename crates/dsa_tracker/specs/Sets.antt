-- Sets of slots, as the bits of a word (this project's choice).
use Rattle.std.specs.Prelude.{ℕ, ◌<◌}
use Rattle.std.specs.Int.{bit_at}
use Rattle.dsa_tracker.specs.declared.slots.Slots.{Slots}

-- the slot is in the set
abbrev pub Has : Slots → ℕ → Type 0
Has set s = 0 < bit_at set.0 s

-- no slot is in the set
abbrev pub IsEmpty : Slots → Type 0
IsEmpty set = (s : ℕ) → ¬ Has set s
