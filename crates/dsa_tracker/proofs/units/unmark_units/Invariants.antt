use Rattle.std.proofs.Common.{◌≢◌, ℕ, ◌<◌}
use Rattle.dsa_tracker.specs.Rows.{Holds}
use Rattle.dsa_tracker.proofs.units.unmark_units.Given as goal

abbrev pub invariant-loop-unit : goal.invariant-loop-unit
invariant-loop-unit l = (k s : ℕ) → s < 64 → s ≢ l.slot → Holds l.initial.rows k s → Holds l.rows k s
