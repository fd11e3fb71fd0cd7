use Rattle.std.proofs.Common.{◌≡◌, length}
use Rattle.dsa_audit.specs.Steps.{AreLasts}
use Rattle.dsa_waits.specs.Keys.{IsLeftWait}
use Rattle.dsa_waits.proofs.search.push_waits.Given as goal

abbrev pub invariant-loop-entry : goal.invariant-loop-entry
invariant-loop-entry l = record {
  count : length l.waits.items ≡ l.entry;
  waits : AreLasts (IsLeftWait l.keyed.accepted.now l.keyed.all.now l.keyed.submissions.now l.course) l.waits.items;
}
