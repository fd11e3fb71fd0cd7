use Rattle.std.proofs.Common.{◌≡◌, ◌+◌, ◌++◌, take, drop}
use Rattle.dsa_prepared.proofs.row.put.Given as goal

abbrev pub invariant-loop-k : goal.invariant-loop-k
invariant-loop-k l = l.buffer ≡ take l.place l.initial.buffer ++ (take l.k l.bytes ++ drop (l.place + l.k) l.initial.buffer)
