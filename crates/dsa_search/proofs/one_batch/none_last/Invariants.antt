use Rattle.std.proofs.Common.{ℕ, ◌<◌}
use Rattle.dsa_conflicts.specs.Last.{IsLastOf}
use Rattle.dsa_search.proofs.one_batch.none_last.Given as goal

-- none of the pieces so far has a last conflict
abbrev pub invariant-loop-last : goal.invariant-loop-last
invariant-loop-last l = (x y : ℕ) → y < l.last-index → IsLastOf l.lasts x y → ⊥
