use Rattle.dsa_audit.specs.Steps.{IsUnfencedUpTo}
use Rattle.dsa_audit.proofs.needless.next_fence.Given as goal

abbrev pub invariant-loop-k : goal.invariant-loop-k
invariant-loop-k l = IsUnfencedUpTo l.fences l.at l.k
