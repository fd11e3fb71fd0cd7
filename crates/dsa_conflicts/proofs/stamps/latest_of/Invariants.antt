use Rattle.dsa_conflicts.specs.Stamps.{covers_at, points_at}
use Rattle.dsa_conflicts.specs.Latest.{IsLatestOf}
use Rattle.dsa_conflicts.proofs.stamps.latest_of.Given as goal

-- the greatest stamp that meets a range so far
abbrev pub invariant-loop-range : goal.invariant-loop-range
invariant-loop-range l = IsLatestOf (points_at l.stamps) (covers_at l.stamps) l.ranges l.range-index l.latest
