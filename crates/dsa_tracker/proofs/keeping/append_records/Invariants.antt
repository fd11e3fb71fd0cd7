use Rattle.std.proofs.Common.{◌↔◌, ◌⊎◌, ℕ, ◌+◌, ◌≤◌, take, slice_index}
use Rattle.dsa_descriptor.specs.Spans.{InSome}
use Rattle.dsa_tracker.specs.Keeping.{InRecord}
use Rattle.dsa_tracker.specs.Kept.{kept}
use Rattle.dsa_tracker.proofs.keeping.append_records.Given as goal

abbrev pub invariant-loop-piece : goal.invariant-loop-piece
invariant-loop-piece g l =
    record {
      spans : (a : ℕ) → InSome (kept l.store) a ↔ (InSome (kept l.initial.store) a ⊎ InRecord g.P.Touching.writes (take l.piece-index l.pieces) a);
      count : slice_index l.store 0 ≤ slice_index l.initial.store 0 + l.piece-index;
    }
