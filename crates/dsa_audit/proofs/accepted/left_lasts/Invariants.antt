use Rattle.std.proofs.Common.{◌≡◌, length}
use Rattle.dsa_audit.specs.Repeats.{OrderMatters}
use Rattle.dsa_audit.specs.Steps.{AreLasts, IsLeftWithin}
use Rattle.dsa_audit.proofs.Guards.{IsLastGiven}
use Rattle.dsa_audit.proofs.accepted.left_lasts.Given as goal

abbrev pub invariant-loop-at : goal.invariant-loop-at
invariant-loop-at g l = record {
  count : length l.left.items ≡ l.at;
  left : AreLasts (IsLeftWithin (OrderMatters l.relation.actions.now l.relation.members.now) (g.A.Acceptance.lists l.acceptance) l.fences) l.left.items;
  begun : IsLastGiven l.fences l.at l.epoch;
}
