use Rattle.dsa_conflicts.proofs.Overlapping.{notes_place}
use Rattle.dsa_conflicts.proofs.overlaps.note_all.Goals as goal

pub loop-place-preserved : goal.loop-place-preserved
loop-place-preserved c = notes_place c.args.touches.now c.args.window c.loop-place.place c.args.lasts.now c.loop-place.lasts c.note_from.new.lasts c.loop-place.invariant c.in-Some.ensures
