use Rattle.dsa_operations.proofs.Order.{KeepsFirst}
use Rattle.dsa_operations.proofs.reading.first_fault.Given as goal

-- the rules so far are kept
abbrev pub invariant-loop-fault : goal.invariant-loop-fault
invariant-loop-fault l = KeepsFirst l.bytes l.op l.fault-index
