-- Segments that a sweep over the first pieces of a list leaves.
use Rattle.std.specs.Prelude.{◌≡◌, ℕ, ◌+◌, ◌<◌, List, [], Option, Some, slice_get}
use Rattle.dsa_descriptor.specs.Fields.{Fields}
use Rattle.dsa_ranges.specs.Ranges.{Reads, Writes}
use Rattle.dsa_conflicts.specs.Access.{IsGreatest}
use Rattle.dsa_conflicts.specs.Last.{HasLasts, in_window}
use Rattle.dsa_conflicts.specs.Sweep.{BecomesLast, Segment, StandsAgainst, last_reader, last_writer}

-- the piece at a place does this to the address
abbrev pub DoesAt : (Fields → ℕ → Type 0) → List Fields → ℕ → ℕ → Type 0
DoesAt Does pieces i a = (d : Fields) × (slice_get pieces i ≡ Some d) × Does d a

-- at each address the last reader and the last writer are the greatest of the first pieces that read and write it
pub record IsSwept (pieces : List Fields) (b : ℕ) (segments : List Segment) : Type 0 where
  pub readers : (a : ℕ) → IsGreatest (λ i. (i < b) × DoesAt Reads pieces i a) (last_reader segments a)
  pub writers : (a : ℕ) → IsGreatest (λ i. (i < b) × DoesAt Writes pieces i a) (last_writer segments a)

-- this holds of no segments before the first piece
abbrev pub SweepBegins : Type 0
SweepBegins = (pieces : List Fields) → IsSwept pieces 0 []

-- and it still holds after one more piece, if that becomes the last reader and the last writer as a sweep says
abbrev pub SweepGoesOn : Type 0
SweepGoesOn = (pieces : List Fields) (b : ℕ) (d : Fields) (old new : List Segment) → slice_get pieces b ≡ Some d → IsSwept pieces b old → BecomesLast (Reads d) b (last_reader old) (last_reader new)
    → BecomesLast (Writes d) b (last_writer old) (last_writer new) → IsSwept pieces (b + 1) new

-- the greatest index that a piece conflicts with by the segments is its last conflict, if it lies in the window; else its
-- last conflict is none
abbrev pub SweepFindsLasts : Type 0
SweepFindsLasts = (pieces : List Fields) (window b : ℕ) (d : Fields) (segments : List Segment) (found : Option ℕ) (lasts : List (Option ℕ)) → HasLasts pieces window lasts → slice_get pieces b ≡ Some d → IsSwept pieces b segments
    → IsGreatest (StandsAgainst d segments) found → slice_get lasts b ≡ Some (in_window found b window)
