-- The sentence of a warning (this project's choice).
use Rattle.std.specs.Prelude.{ℕ, List, ◌++◌, codes, decimal}
use Rattle.dsa_warnings.specs.declared.concerns.Concern.{Concern}
use Rattle.dsa_warnings.specs.declared.concerns.Concern.TheVariants.{Overlap, SharedRecord, Unchecked, Unguarded}
use Rattle.dsa_warnings.specs.declared.warnings.Warning.{Warning}

-- what it says of the piece
abbrev pub concern_words : Concern → List ℕ
concern_words (SharedRecord earlier) = codes ": it or piece " ++ (decimal earlier ++ codes " writes into the completion record of the other")
concern_words Unchecked = codes ": without check its result does not stop what is after a barrier"
concern_words Unguarded = codes ": what is after its check, up to a barrier, may run even if it fails"
concern_words Overlap = codes ": its ranges overlap, and only devices with overlapping copy support (GENCAP bit 1) take it"

-- with the piece
abbrev pub warning_words : Warning → List ℕ
warning_words w = codes "piece " ++ (decimal w.piece ++ concern_words w.concern)
