use Rattle.std.proofs.Common.{◌≡◌, length}
use Rattle.dsa_conflicts.proofs.Lasts.{AreSwept}
use Rattle.dsa_audit.specs.Members.{KnownConflict, reads_of, writes_of}
use Rattle.dsa_audit.specs.Steps.{AreLasts}
use Rattle.dsa_audit.proofs.lasts.known_lasts.Given as goal

abbrev pub invariant-loop-k : goal.invariant-loop-k
invariant-loop-k l = record {
  swept : AreSwept reads_of writes_of l.members l.k l.sweep.segments;
  counted : l.sweep.count ≡ l.k;
  lasts : AreLasts (KnownConflict l.members) l.lasts.items;
  count : length l.lasts.items ≡ l.k;
}
