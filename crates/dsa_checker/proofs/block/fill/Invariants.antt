use Rattle.std.proofs.Common.{◌≡◌, ℕ, ◌-◌, ◌<◌, ◌≤◌, slice_index}
use Rattle.dsa_checker.specs.Blocks.{place, HasRows}
use Rattle.dsa_checker.proofs.block.fill.Given as goal

-- so many pieces have their rows, from the last on
abbrev pub invariant-loop-done : goal.invariant-loop-done
invariant-loop-done l = record {
  rows : HasRows l.pairs l.fence l.first l.past (l.past - l.done) l.block.rows l.block.lasts l.block.counts;
  prices : (end : ℕ) → l.first < end → end ≤ l.past → slice_index l.block.rows (place l.first 64 end) ≡ slice_index l.prices end;
}
