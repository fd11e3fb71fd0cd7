use Rattle.std.proofs.Common.{◌≡◌, ◌≤◌, length, map, take}
use Rattle.dsa_waits.specs.Fitting.{AreQueues, FitUpTo, event_of}
use Rattle.dsa_waits.proofs.fitting.fit_lines.Given as goal

abbrev pub invariant-loop-k : goal.invariant-loop-k
invariant-loop-k l = record {
  fit : FitUpTo l.all l.submissions l.lines l.k;
  queues_are : AreQueues l.lines l.k l.queues.items;
  few : length l.queues.items ≤ length l.submissions;
  events_are : l.events.items ≡ take l.k (map event_of l.lines);
}
