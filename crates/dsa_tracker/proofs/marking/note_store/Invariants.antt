use Rattle.std.proofs.Common.{◌≡◌, ◌↔◌, ℕ, ◌<◌, true}
use Rattle.dsa_tracker.specs.Finding.{AreCovered}
use Rattle.dsa_tracker.specs.Rows.{Holds}
use Rattle.dsa_tracker.specs.Sets.{Has}
use Rattle.dsa_tracker.proofs.Noting.{AreNotedBelow, ConflictsBelow}
use Rattle.dsa_tracker.proofs.marking.note_store.Given as goal

abbrev pub invariant-loop-index : goal.invariant-loop-index
invariant-loop-index l =
    record {
      found : AreCovered l.shape.width l.stores l.shape.grid l.initial.rows l.others.wide l.others.among → (k : ℕ) → Has l.found k ↔ (Has l.others.among k × ConflictsBelow l.shape.width l.stores l.is_written l.store l.index k);
      noted : l.is_whole ≡ true → AreNotedBelow l.shape.grid l.rows l.is_written l.store l.index l.slot;
      kept : (k s : ℕ) → s < 64 → Holds l.initial.rows k s → Holds l.rows k s;
    }
