use Rattle.std.proofs.Common.{◌≡◌, ◌⊎◌, ℕ}
use Rattle.dsa_tracker.specs.Sets.{Has}
use Rattle.dsa_tracker.specs.State.{waits_of}
use Rattle.dsa_tracker.specs.Table.{IsWithout}
use Rattle.dsa_tracker.proofs.board.forget.Given as goal

abbrev pub invariant-loop-other : goal.invariant-loop-other
invariant-loop-other l =
    record {
      forgets : (k : ℕ) → Has l.fn.among k → (¬ Has l.rest k) → IsWithout (waits_of l.initial.waits k) l.slot (waits_of l.waits k);
      others : (k : ℕ) → (¬ Has l.fn.among k) ⊎ Has l.rest k → waits_of l.waits k ≡ waits_of l.initial.waits k;
      rest : (k : ℕ) → Has l.rest k → Has l.fn.among k;
    }

abbrev pub decreases-loop-other : goal.decreases-loop-other
decreases-loop-other l = l.rest.0
