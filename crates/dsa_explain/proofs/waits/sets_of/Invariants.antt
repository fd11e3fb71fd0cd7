use Rattle.std.proofs.Common.{◌≡◌, ℕ, Some, length, slice_get}
use Rattle.std.specs.Prelude.{slice_index}
use Rattle.dsa_tracker.specs.declared.slots.Slots.{Slots}
use Rattle.dsa_tracker.specs.Table.{IsExactly, WaitsFor}
use Rattle.dsa_tracker.specs.Words.{table_in}
use Rattle.dsa_explain.proofs.waits.sets_of.Given as goal

abbrev pub invariant-loop-slot : goal.invariant-loop-slot
invariant-loop-slot l =
    record {
      count : length l.sets.items ≡ l.slot-index;
      each : (k : ℕ) (set : Slots) → slice_get l.sets.items k ≡ Some set → IsExactly set (λ s. WaitsFor (table_in l.tracker).slots s (slice_index l.slots k));
    }
