use Rattle.std.proofs.Common.{take}
use Rattle.dsa_waits.specs.RecordedSteps.{AreMarked}
use Rattle.dsa_waits.specs.Waits.{failed_by, watched_by}
use Rattle.dsa_waits.proofs.recorded.marks_of.Given as goal

abbrev pub invariant-loop-event : goal.invariant-loop-event
invariant-loop-event l = record {
  watched : AreMarked watched_by (take l.event-index l.events) l.count l.watched.items;
  failed : AreMarked failed_by (take l.event-index l.events) l.count l.failed.items;
}
