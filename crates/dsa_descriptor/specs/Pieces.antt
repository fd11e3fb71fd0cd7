-- How many pieces may be planned together.
use Rattle.std.specs.Prelude.{ℕ}

-- the most pieces of a list that is planned, judged, checked, explained or run (this project's choice)
abbrev pub most_pieces : ℕ
most_pieces = 65536
