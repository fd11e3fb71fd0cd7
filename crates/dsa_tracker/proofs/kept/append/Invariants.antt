use Rattle.std.proofs.Common.{◌↔◌, ◌⊎◌, ℕ, ◌+◌, ◌≤◌, take, slice_index}
use Rattle.dsa_descriptor.specs.Spans.{InSome}
use Rattle.dsa_tracker.specs.Kept.{InFirst, kept}
use Rattle.dsa_tracker.proofs.kept.append.Given as goal

abbrev pub invariant-loop-span : goal.invariant-loop-span
invariant-loop-span l =
    record {
      spans : (a : ℕ) → InFirst l.store l.count a ↔ (InSome (kept l.initial.store) a ⊎ InSome (take l.span-index l.spans) a);
      count : l.count ≤ slice_index l.initial.store 0 + l.span-index;
    }
