use Rattle.std.proofs.Common.{◌↔◌, ℕ, ◌+◌, ◌*◌}
use Rattle.dsa_tracker.specs.Kept.{Touches, store_at}
use Rattle.dsa_tracker.specs.Sets.{Has}
use Rattle.dsa_tracker.proofs.finding.slots_that_touch.Given as goal

abbrev pub invariant-loop-slot : goal.invariant-loop-slot
invariant-loop-slot l =
    record {
      found : (k : ℕ) → Has l.found k ↔ (Has l.fn.among k × (¬ Has l.rest k) × Touches (store_at l.width l.stores (2 * k + l.side)) l.first l.last);
      rest : (k : ℕ) → Has l.rest k → Has l.fn.among k;
    }

abbrev pub decreases-loop-slot : goal.decreases-loop-slot
decreases-loop-slot l = l.rest.0
