use Rattle.dsa_conflicts.specs.Overlaps.{ClashAmong, Notes}
use Rattle.dsa_conflicts.proofs.overlaps.note_all.Given as goal

-- the conflicts of the accesses so far are noted
abbrev pub invariant-loop-place : goal.invariant-loop-place
invariant-loop-place l = Notes (ClashAmong l.touches l.window l.place) l.initial.lasts l.lasts
