use Rattle.std.proofs.Common.{arith}
use Rattle.dsa_descriptor.specs.Spans.{span}
use Rattle.dsa_ranges.proofs.SpanLists.{some_at, none_at}
use Rattle.dsa_ranges.proofs.hazards.shared_by.Goals as goal

pub returns-in-Some : goal.returns-in-Some
returns-in-Some c = (some_at c.args.first.now c.loop-span.span-index (span 0 0) c.in-Some.address c.loop-span-test.true c.in-Some.ensures.0, c.in-Some.ensures.1)

pub returns : goal.returns
returns c a here there = none_at c.args.first.now (span 0 0) a (λ k lt inside. c.loop-span.invariant k (omega arith) a inside there) here
