use Rattle.std.proofs.Common.{◌≡◌}
use Rattle.dsa_conflicts.specs.Stamps.{AreAtMost, AreStamps, covers_at, places_of, points_at}
use Rattle.dsa_conflicts.specs.Latest.{IsAmong, Stamped}
use Rattle.dsa_conflicts.proofs.stamps.stamp_all.Given as goal

-- the ranges so far are stamped
abbrev pub invariant-loop-range : goal.invariant-loop-range
invariant-loop-range l = record {
  stamps : AreStamps l.stamps;
  most : AreAtMost l.stamp l.stamps;
  count : places_of l.stamps ≡ places_of l.fn.stamps;
  stamped : Stamped (IsAmong l.ranges l.range-index) l.stamp (points_at l.fn.stamps) (points_at l.stamps) (covers_at l.fn.stamps) (covers_at l.stamps);
}
