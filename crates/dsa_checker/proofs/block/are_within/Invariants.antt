use Rattle.std.proofs.Common.{ℕ, ◌+◌, ◌<◌, ◌≤◌, slice_index}
use Rattle.std.specs.Prelude.{IsTrue}
use Rattle.dsa_checker.proofs.block.are_within.Given as goal

-- no price so far is above
abbrev pub invariant-loop-k : goal.invariant-loop-k
invariant-loop-k l = IsTrue l.within → (j : ℕ) → j < l.k → slice_index l.rows (l.at + j) ≤ l.most + slice_index l.table (l.size + j)
