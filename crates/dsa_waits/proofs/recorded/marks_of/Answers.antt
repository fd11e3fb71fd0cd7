use Rattle.std.proofs.Common.{ℕ, Option, refl, subst}
use Rattle.dsa_waits.specs.Steps.{Marks}
use Rattle.dsa_waits.specs.Waits.{failed_by, watched_by}
use Rattle.dsa_waits.proofs.Entered.{marked_more}
use Rattle.dsa_waits.proofs.recorded.marks_of.Goals as goal

pub loop-event-preserved : goal.loop-event-preserved
loop-event-preserved c = record {
  watched = marked_more watched_by c.args.events.now c.loop-event.event-index c.args.count _ c.loop-event.watched.items c.mark.new.flags.items c.loop-event-test.true refl
      c.loop-event.invariant.watched (subst (λ (o : Option ℕ). Marks o c.loop-event.watched.items c.mark.new.flags.items) c.watched_number.ensures c.mark.ensures);
  failed = marked_more failed_by c.args.events.now c.loop-event.event-index c.args.count _ c.loop-event.failed.items c.mark-in-loop-event.new.flags.items c.loop-event-test.true refl
      c.loop-event.invariant.failed (subst (λ (o : Option ℕ). Marks o c.loop-event.failed.items c.mark-in-loop-event.new.flags.items) c.failed_number.ensures c.mark-in-loop-event.ensures);
}
