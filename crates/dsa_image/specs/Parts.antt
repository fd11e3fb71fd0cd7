-- The parts of a row that lines cover, and how many lines examine a delta (this project's choice).
use Rattle.std.specs.Prelude.{ℕ, ◌+◌, ◌-◌, ◌*◌, min, Bool, ◌&&◌, nat_lt, if◌then◌else◌}
use Rattle.std.specs.Int.{div_ceil}
use Rattle.dsa_image.specs.Basics.{entry_count}

-- a divided by b, rounded up
unfoldable pub quotient_up : ℕ → ℕ → ℕ
quotient_up a b = div_ceil a b

-- a move whose destination begins inside its source, which goes from the highest offset down
unfoldable pub runs_down : ℕ → ℕ → ℕ → Bool
runs_down src dst size = nat_lt src dst && nat_lt dst (src + size)

-- which part of `count` is done at this turn
unfoldable pub part_at : Bool → ℕ → ℕ → ℕ
part_at down count turn = if down then count - 1 - turn else turn

-- where a part of a row of `size` things ends, with `width` of them to a part
unfoldable pub part_end : ℕ → ℕ → ℕ → ℕ
part_end width size k = min size (width * (k + 1))

-- how many bytes a line moves, fills or compares
abbrev pub line_width : ℕ
line_width = 4096

-- how many entries of a delta a line examines or writes
abbrev pub entry_width : ℕ
entry_width = 256

-- how many lines examine a delta record of this many bytes; as many write it
abbrev pub entry_lines : ℕ → ℕ
entry_lines record_size = quotient_up (entry_count record_size) entry_width

-- which line of a move is done at turn t
abbrev pub move_part : ℕ → ℕ → ℕ → ℕ → ℕ
move_part src dst size t = part_at (runs_down src dst size) (quotient_up size line_width) t
