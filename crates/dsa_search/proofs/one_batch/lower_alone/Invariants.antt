use Rattle.std.proofs.Common.{◌≡◌, ℕ, ◌*◌, ◌<◌, ◌≤◌, min, length, slice_index}
use Rattle.dsa_search.proofs.one_batch.lower_alone.Given as goal

-- the costs so far are lowered, the others are still those of a batch
abbrev pub invariant-loop-count : goal.invariant-loop-count
invariant-loop-count l = record {
  size : length l.costs ≡ length l.fn.costs;
  from : 2 ≤ l.count;
  first : slice_index l.costs 0 ≡ 0;
  second : slice_index l.costs 1 ≡ l.lone;
  each : (k : ℕ) → 2 ≤ k → k < l.count → slice_index l.costs k ≡ min (l.lone * k) l.batch;
  rest : (k : ℕ) → l.count ≤ k → k < length l.fn.costs → slice_index l.costs k ≡ l.batch;
}
