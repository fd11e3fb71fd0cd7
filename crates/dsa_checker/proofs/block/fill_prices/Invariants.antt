use Rattle.std.proofs.Common.{◌≡◌, ℕ, ◌<◌, length, slice_index}
use Rattle.dsa_checker.specs.Blocks.{place}
use Rattle.dsa_checker.proofs.block.fill_prices.Given as goal

-- the prices so far are in the row
abbrev pub invariant-loop-end : goal.invariant-loop-end
invariant-loop-end l = record {
  count : length l.rows ≡ length l.fn.rows;
  prices : (j : ℕ) → l.first < j → j < l.end → slice_index l.rows (place l.first 64 j) ≡ slice_index l.prices j;
}
