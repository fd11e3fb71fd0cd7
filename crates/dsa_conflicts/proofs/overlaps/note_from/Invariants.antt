use Rattle.dsa_conflicts.specs.Overlaps.{ClashFrom, Notes}
use Rattle.dsa_conflicts.proofs.overlaps.note_from.Given as goal

-- the conflicts with the accesses so far are noted
abbrev pub invariant-loop-next : goal.invariant-loop-next
invariant-loop-next l = Notes (ClashFrom l.touches l.window l.place l.next) l.initial.lasts l.lasts
