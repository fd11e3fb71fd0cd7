use Rattle.std.proofs.Common.{◌≢◌, ℕ, ◌<◌}
use Rattle.dsa_tracker.specs.Rows.{Holds}
use Rattle.dsa_tracker.proofs.marking.unmark_store.Given as goal

abbrev pub invariant-loop-index : goal.invariant-loop-index
invariant-loop-index l = (k s : ℕ) → s < 64 → s ≢ l.slot → Holds l.initial.rows k s → Holds l.rows k s
