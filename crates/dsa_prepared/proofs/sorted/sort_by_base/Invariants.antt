use Rattle.std.proofs.Common.{◌≡◌, length}
use Rattle.dsa_prepared.proofs.sorted.sort_by_base.Given as goal

abbrev pub invariant-loop-k : goal.invariant-loop-k
invariant-loop-k l = length l.order ≡ length l.fn.order
