use Rattle.std.proofs.Common.{ℕ, ◌+◌, ◌<◌, map, min}
use Rattle.dsa_descriptor.specs.Descriptors.{fields}
use Rattle.dsa_conflicts.specs.Spread.{DataConflictAt}
use Rattle.dsa_conflicts.proofs.spread.last_back.Given as goal

-- the data of none of the pieces so far, from the last one back, conflicts with that of the piece
abbrev pub invariant-loop-back : goal.invariant-loop-back
invariant-loop-back l = (other : ℕ) → other < l.piece → min l.latest l.piece < other + l.back → DataConflictAt (map fields l.pieces) other l.piece → ⊥
