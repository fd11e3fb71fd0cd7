use Rattle.std.proofs.Common.{ℕ, ◌<◌, ◌≤◌}
use Rattle.std.specs.Int.{bit_at}
use Rattle.dsa_tracker.specs.Rows.{Holds, IsNoted, IsSought}
use Rattle.dsa_tracker.proofs.units.note_units.Given as goal

abbrev pub invariant-loop-unit : goal.invariant-loop-unit
invariant-loop-unit l =
    record {
      found : (u s : ℕ) → s < 64 → l.from ≤ u → u < l.unit → IsSought l.grid l.initial.rows l.is_written u s → 0 < bit_at l.found s;
      noted : (u : ℕ) → l.from ≤ u → u < l.unit → IsNoted l.grid l.rows l.is_written u l.slot;
      kept : (k s : ℕ) → s < 64 → Holds l.initial.rows k s → Holds l.rows k s;
    }
