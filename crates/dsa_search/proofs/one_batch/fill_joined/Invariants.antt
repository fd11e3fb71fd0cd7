use Rattle.std.proofs.Common.{◌≡◌, ℕ, ◌+◌, ◌*◌, ◌≤◌, min, length, slice_index}
use Rattle.dsa_plan.specs.Chain.{HasCountBelow, IsLastBelow}
use Rattle.dsa_search.proofs.one_batch.fill_joined.Given as goal

-- the costs up to the piece are there, and the chain of the first piece so far
abbrev pub invariant-loop-last : goal.invariant-loop-last
invariant-loop-last l = record {
  size : length l.costs ≡ length l.fn.costs;
  first : slice_index l.costs 0 ≡ 0;
  second : 1 ≤ l.last → slice_index l.costs 1 ≡ l.lone;
  each : (j : ℕ) → 2 ≤ j → j ≤ l.last → (c : ℕ) × HasCountBelow l.pairs 0 j c × (slice_index l.costs j ≡ min (l.lone * j) (l.batch + l.fence * c));
  chain : IsLastBelow l.pairs 0 (l.last + 1) l.fences l.piece;
}
