use Rattle.std.proofs.Common.{◌≡◌, ◌<◌, length}
use Rattle.dsa_conflicts.specs.Access.{IsGreatest}
use Rattle.dsa_audit.specs.Members.{IsUnknownAt, PossibleConflict}
use Rattle.dsa_audit.specs.Steps.{AreLasts, IsOuterConflict}
use Rattle.dsa_audit.proofs.Guards.{IsLastGiven}
use Rattle.dsa_audit.proofs.outer.outer_lasts.Given as goal

abbrev pub invariant-loop-at : goal.invariant-loop-at
invariant-loop-at l = record {
  count : length l.outers.items ≡ l.at;
  outers : AreLasts (IsOuterConflict (PossibleConflict l.members) l.fences) l.outers.items;
  begun : IsLastGiven l.fences l.at l.epoch;
  outside : IsGreatest (λ a. (a < l.epoch) × IsUnknownAt l.members a) l.outside;
  unknown : IsGreatest (λ a. (a < l.at) × IsUnknownAt l.members a) l.unknown;
}
