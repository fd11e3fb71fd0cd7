use Rattle.std.proofs.Common.{◌≡◌, length}
use Rattle.dsa_audit.specs.Members.{KnownConflict}
use Rattle.dsa_audit.specs.Steps.{AreLasts}
use Rattle.dsa_audit.proofs.lasts.all_lasts.Given as goal

abbrev pub invariant-loop-k : goal.invariant-loop-k
invariant-loop-k l = record {
  lasts : AreLasts (KnownConflict l.members) l.lasts.items;
  count : length l.lasts.items ≡ l.k;
}
