use Rattle.std.proofs.Common.{◌↔◌, ℕ, take}
use Rattle.dsa_tracker.specs.Finding.{AreCovered, ConflictsWithSpans}
use Rattle.dsa_tracker.specs.Sets.{Has}
use Rattle.dsa_tracker.proofs.asking.slots_against.Given as goal

abbrev pub invariant-loop-span : goal.invariant-loop-span
invariant-loop-span l = AreCovered l.shape.width l.stores l.shape.grid l.rows l.others.wide l.others.among → (k : ℕ) → Has l.found k ↔ (Has l.others.among k × ConflictsWithSpans l.shape.width l.stores l.is_written (take l.span-index l.spans) k)
