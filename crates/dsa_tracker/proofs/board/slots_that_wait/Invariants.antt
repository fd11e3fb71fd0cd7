use Rattle.std.proofs.Common.{◌↔◌, ℕ}
use Rattle.dsa_tracker.specs.Sets.{Has}
use Rattle.dsa_tracker.specs.State.{waits_of}
use Rattle.dsa_tracker.proofs.board.slots_that_wait.Given as goal

abbrev pub invariant-loop-other : goal.invariant-loop-other
invariant-loop-other l =
    record {
      found : (k : ℕ) → Has l.found k ↔ (Has l.fn.among k × (¬ Has l.rest k) × Has (waits_of l.waits k) l.slot);
      rest : (k : ℕ) → Has l.rest k → Has l.fn.among k;
    }

abbrev pub decreases-loop-other : goal.decreases-loop-other
decreases-loop-other l = l.rest.0
