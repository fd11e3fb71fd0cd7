use Rattle.std.proofs.Common.{◌≡◌, ◌≤◌, ℕ, List, map}
use Rattle.std.specs.List.{range_with_len}
use Rattle.dsa_tracker.specs.Groups.{free_count}
use Rattle.dsa_tracker.specs.State.{shown}
use Rattle.dsa_tracker.proofs.board.free_slots.Given as goal

abbrev pub invariant-loop-slot : goal.invariant-loop-slot
invariant-loop-slot l =
    record {
      few : l.free ≤ l.slot;
      count : (width : ℕ) (waits stores : List ℕ) → l.free ≡ free_count (map (shown width l.board waits stores) (range_with_len 0 l.slot));
    }
