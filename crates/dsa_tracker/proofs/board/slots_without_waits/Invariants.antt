use Rattle.std.proofs.Common.{◌↔◌, ℕ}
use Rattle.dsa_tracker.specs.Sets.{Has, IsEmpty}
use Rattle.dsa_tracker.specs.State.{waits_of}
use Rattle.dsa_tracker.proofs.board.slots_without_waits.Given as goal

abbrev pub invariant-loop-slot : goal.invariant-loop-slot
invariant-loop-slot l =
    record {
      found : (k : ℕ) → Has l.found k ↔ (Has l.fn.among k × (¬ Has l.rest k) × IsEmpty (waits_of l.waits k));
      rest : (k : ℕ) → Has l.rest k → Has l.fn.among k;
    }

abbrev pub decreases-loop-slot : goal.decreases-loop-slot
decreases-loop-slot l = l.rest.0
