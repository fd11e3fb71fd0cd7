use Rattle.std.proofs.Common.{◌≡◌, length}
use Rattle.dsa_audit.specs.Repeats.{OrderMatters}
use Rattle.dsa_audit.specs.Steps.{AreLasts}
use Rattle.dsa_audit.proofs.repeats.ordered_lasts.Given as goal

abbrev pub invariant-loop-k : goal.invariant-loop-k
invariant-loop-k l = record {
  lasts : AreLasts (OrderMatters l.actions l.members) l.ordered.items;
  count : length l.ordered.items ≡ l.k;
}
