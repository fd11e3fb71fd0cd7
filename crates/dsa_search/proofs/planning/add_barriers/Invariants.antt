use Rattle.std.proofs.Common.{◌≡◌, ◌⊎◌, ℕ, ◌-◌, ◌<◌, ◌≤◌, length, slice_get, Some}
use Rattle.dsa_search.specs.Lasts.{BeginsAfterBarrier}
use Rattle.dsa_search.proofs.planning.add_barriers.Given as goal

abbrev pub invariant-loop-k : goal.invariant-loop-k
invariant-loop-k l = record {
  from : 0 < l.k;
  begun : (j : ℕ) → j < l.k → j < length l.fn.lasts → BeginsAfterBarrier l.barriers j → slice_get l.lasts j ≡ Some (Some (j - 1));
  others : (j : ℕ) → (l.k ≤ j) ⊎ (¬ BeginsAfterBarrier l.barriers j) → slice_get l.lasts j ≡ slice_get l.fn.lasts j;
}
