use Rattle.dsa_waits.specs.Steps.{IsFlying}
use Rattle.dsa_waits.proofs.search.missing_waits.Given as goal

abbrev pub invariant-loop-k : goal.invariant-loop-k
invariant-loop-k l = IsFlying l.keyed.accepted.now l.keyed.all.now l.keyed.submissions.now l.course l.k l.flying
