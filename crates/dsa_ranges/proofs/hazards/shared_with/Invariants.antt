use Rattle.std.proofs.Common.{ℕ, ◌<◌, get_or}
use Rattle.dsa_descriptor.specs.Spans.{InSpan, span}
use Rattle.dsa_ranges.proofs.hazards.shared_with.Given as goal

abbrev pub invariant-loop-other : goal.invariant-loop-other
invariant-loop-other l = (k : ℕ) → k < l.other-index → (a : ℕ) → InSpan l.span a → InSpan (get_or l.spans k (span 0 0)) a → ⊥
