use Rattle.std.proofs.Common.{◌≡◌, ◌<◌, ℕ, slice_get}
use Rattle.dsa_calls.proofs.checking.first_other.Given as goal

-- the lists agree so far
abbrev pub invariant-loop-index : goal.invariant-loop-index
invariant-loop-index g l = (k : ℕ) → k < l.index → slice_get l.submitted k ≡ slice_get l.listed k
