-- The ends of one run of a chain, for private clauses.
use Rattle.std.specs.Prelude.{ℕ, ◌≡◌, ◌+◌, ◌-◌, ◌^◌, ◌<◌, ◌≤◌, List, length, slice_index}
use Rattle.dsa_descriptor.specs.Pieces.{most_pieces}
use Rattle.dsa_plan.specs.Chain.{Pairs, GoForward}

-- no end from one to before another has a price above this plus that of a batch of the pieces from `start` on
abbrev pub AreWithin : List ℕ → List ℕ → ℕ → ℕ → ℕ → ℕ → Type 0
AreWithin prices table start from to most =
    (k : ℕ) → from ≤ k → k < to → slice_index prices k ≤ most + slice_index table (k - start - 2)

-- this end is the first with such a price
pub record IsFirstAbove (prices table : List ℕ) (start from to most end : ℕ) : Type 0 where
  pub low : from ≤ end
  pub high : end < to
  pub above : most + slice_index table (end - start - 2) < slice_index prices end
  pub before : AreWithin prices table start from end most

-- what steps are tested with: a price for the first 0, 1, .. pieces, pairs that lead forward, and a table of prices of
-- batches by their size
pub record IsSheet (prices : List ℕ) (pairs : Pairs) (table : List ℕ) : Type 0 where
  pub forward : GoForward pairs
  pub few : length pairs ≤ most_pieces
  pub count : length prices ≡ length pairs + 1
  pub fits : (k : ℕ) → slice_index prices k < 2 ^ 64
  pub sizes : length table ≤ 1023
