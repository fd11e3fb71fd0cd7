use Rattle.dsa_audit.specs.Steps.{NoneSet}
use Rattle.dsa_audit.proofs.needless.first_set.Given as goal

-- none so far is set
abbrev pub invariant-loop-m : goal.invariant-loop-m
invariant-loop-m l = NoneSet l.flags l.from l.m
