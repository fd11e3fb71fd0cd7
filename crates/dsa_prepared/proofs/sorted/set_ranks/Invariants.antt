use Rattle.std.proofs.Common.{◌≡◌, length}
use Rattle.dsa_prepared.proofs.sorted.set_ranks.Given as goal

abbrev pub invariant-loop-place : goal.invariant-loop-place
invariant-loop-place l = length l.ranks ≡ length l.fn.ranks
