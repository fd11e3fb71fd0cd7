use Rattle.std.proofs.Common.{◌≡◌, ◌<◌, length}
use Rattle.dsa_conflicts.specs.Access.{IsGreatest}
use Rattle.dsa_audit.specs.Members.{IsUnknownAt, PossibleConflict}
use Rattle.dsa_audit.specs.Steps.{AreLasts}
use Rattle.dsa_audit.proofs.lasts.lasts_with_unknown.Given as goal

abbrev pub invariant-loop-k : goal.invariant-loop-k
invariant-loop-k l = record {
  lasts : AreLasts (PossibleConflict l.members) l.lasts.items;
  count : length l.lasts.items ≡ l.k;
  unknown : IsGreatest (λ a. (a < l.k) × IsUnknownAt l.members a) l.unknown;
}
