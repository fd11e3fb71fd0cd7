use Rattle.std.specs.Prelude.{slice_index}
use Rattle.dsa_conflicts.specs.Stamps.{IsMost}
use Rattle.dsa_conflicts.proofs.stamps.most.Given as goal

-- the greatest stamp so far
abbrev pub invariant-loop-place : goal.invariant-loop-place
invariant-loop-place l = IsMost (slice_index l.stamps) l.from l.place l.most
