use Rattle.std.proofs.Common.{map}
use Rattle.dsa_descriptor.specs.Descriptors.{fields}
use Rattle.dsa_conflicts.proofs.Risen.{AreRising}
use Rattle.dsa_conflicts.proofs.rising.are_rising.Given as goal

-- the pieces so far rise
abbrev pub invariant-loop-d : goal.invariant-loop-d
invariant-loop-d l = AreRising (map fields l.pieces) l.low l.middle l.bound l.high l.from l.to l.d-index
