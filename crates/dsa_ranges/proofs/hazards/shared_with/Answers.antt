use Rattle.std.proofs.Common.{ℕ, get_or, below_more, arith}
use Rattle.dsa_descriptor.specs.Spans.{InSpan, span}
use Rattle.dsa_ranges.proofs.SpanLists.{some_at, none_at}
use Rattle.dsa_ranges.proofs.hazards.shared_with.Goals as goal

pub returns-in-Some : goal.returns-in-Some
returns-in-Some c = (c.in-Some.ensures.0, some_at c.args.spans.now c.loop-other.other-index (span 0 0) c.in-Some.address c.loop-other-test.true c.in-Some.ensures.1)

pub loop-other-preserved : goal.loop-other-preserved
loop-other-preserved c =
    below_more (λ (k : ℕ). (a : ℕ) → InSpan c.args.span a → InSpan (get_or c.args.spans.now k (span 0 0)) a → ⊥) c.loop-other.other-index c.loop-other.invariant c.in_default.ensures

pub returns : goal.returns
returns c a here there = none_at c.args.spans.now (span 0 0) a (λ k lt inside. c.loop-other.invariant k (omega arith) a here inside) there
