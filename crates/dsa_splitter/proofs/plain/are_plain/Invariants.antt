use Rattle.dsa_splitter.proofs.AsTheyStand.{ArePlain}
use Rattle.dsa_splitter.proofs.plain.are_plain.Given as goal

-- the operations so far are plain
abbrev pub invariant-loop-d : goal.invariant-loop-d
invariant-loop-d l = ArePlain l.list l.longest l.low l.high l.from l.to l.d-index
