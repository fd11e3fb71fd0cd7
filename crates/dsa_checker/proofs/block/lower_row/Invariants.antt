use Rattle.std.proofs.Common.{◌≡◌, ◌⊎◌, ℕ, ◌+◌, ◌-◌, ◌<◌, ◌≤◌, length, slice_index}
use Rattle.dsa_checker.proofs.block.lower_row.Given as goal

-- the prices so far are copied
abbrev pub invariant-loop-k : goal.invariant-loop-k
invariant-loop-k l = record {
  count : length l.rows ≡ length l.fn.rows;
  kept : (j : ℕ) → j < l.kept → j < l.k → slice_index l.rows (l.to + j) ≡ slice_index l.fn.rows (l.from + j);
  lowered : (j : ℕ) → l.kept ≤ j → j < l.k → slice_index l.rows (l.to + j) ≡ slice_index l.fn.rows (l.from + j) - l.fence;
  outside : (j : ℕ) → (j < l.to) ⊎ (l.to + l.k ≤ j) → slice_index l.rows j ≡ slice_index l.fn.rows j;
}
