use Rattle.std.proofs.Common.{◌≡◌, ◌≤◌}
use Rattle.dsa_emission.specs.Emission.{place_of}
use Rattle.dsa_tracker.specs.Before.{place_by}
use Rattle.dsa_tracker.proofs.groups.end_of.Given as goal

-- what comes before the next group
abbrev pub invariant-loop-group : goal.invariant-loop-group
invariant-loop-group l =
    record {
      placed : place_by l.before ≡ place_of l.groups l.group-index;
      few : l.before.start ≤ l.pieces;
    }
