use Rattle.std.proofs.Common.{ℕ, ◌<◌, get_or}
use Rattle.dsa_descriptor.specs.Spans.{InSpan, InSome, span}
use Rattle.dsa_ranges.proofs.hazards.shared_by.Given as goal

abbrev pub invariant-loop-span : goal.invariant-loop-span
invariant-loop-span l = (k : ℕ) → k < l.span-index → (a : ℕ) → InSpan (get_or l.first k (span 0 0)) a → InSome l.second a → ⊥
