use Rattle.std.specs.Prelude.{slice_index}
use Rattle.dsa_conflicts.specs.Stamps.{Covered}
use Rattle.dsa_conflicts.proofs.stamps.cover.Given as goal

-- the places so far are set
abbrev pub invariant-loop-place : goal.invariant-loop-place
invariant-loop-place l = Covered (slice_index l.initial.stamps) (slice_index l.stamps) l.from l.place l.stamp
