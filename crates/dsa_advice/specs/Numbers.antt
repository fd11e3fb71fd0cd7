-- Numbers in arguments (this project's choice): as in the grammar of operations.
use Rattle.std.specs.Prelude.{ℕ, ◌==◌, List, [], ◌∷◌, map, Option, Some, None, option_map}
use Rattle.std.specs.List.{slice_split}
use Rattle.dsa_lines.specs.Numbers.{number_of}

-- a number before others, if all are there
abbrev pub with_next : Option ℕ → Option (List ℕ) → Option (List ℕ)
with_next None more = None
with_next (Some n) more = option_map (λ ns. n ∷ ns) more

-- all of the numbers, if each is there
abbrev pub all_of : List (Option ℕ) → Option (List ℕ)
all_of [] = Some []
all_of (n ∷ ns) = with_next n (all_of ns)

-- numbers with commas between
abbrev pub numbers_of : List ℕ → Option (List ℕ)
numbers_of word = all_of (map number_of (slice_split (λ c. c == 44) word))
