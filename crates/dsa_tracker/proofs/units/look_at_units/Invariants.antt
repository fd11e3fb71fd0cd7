use Rattle.std.proofs.Common.{ℕ, ◌<◌, ◌≤◌}
use Rattle.std.specs.Int.{bit_at}
use Rattle.dsa_tracker.specs.Rows.{IsSought}
use Rattle.dsa_tracker.proofs.units.look_at_units.Given as goal

abbrev pub invariant-loop-unit : goal.invariant-loop-unit
invariant-loop-unit l = (u s : ℕ) → l.from ≤ u → u < l.unit → IsSought l.grid l.rows l.is_written u s → 0 < bit_at l.found s
