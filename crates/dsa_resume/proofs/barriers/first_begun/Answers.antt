use Rattle.std.proofs.Common.{◌≤◌, arith}
use Rattle.dsa_resume.specs.Barriers.{HasEnded}
use Rattle.dsa_resume.specs.Ended.{has_begun}
use Rattle.std.proofs.lemmas.Option.{slice_get_within}
use Rattle.dsa_resume.proofs.Found.{ended_here, least_here, none_more, not_here}
use Rattle.dsa_resume.proofs.barriers.first_begun.Goals as goal

pub returns-then-has_begun : goal.returns-then-has_begun
returns-then-has_begun c = (
  c.loop-index.auto.index,
  ended_here has_begun c.args.ends.now c.loop-index.index _ c.loop-index-test.true c.if-has_begun.ensures,
  λ y from begun. least_here (λ k. (c.args.front ≤ k) × HasEnded has_begun c.args.ends.now k) c.loop-index.index (λ k less (after, is). c.loop-index.invariant k after less is) y (from, begun),
)

pub loop-index-preserved : goal.loop-index-preserved
loop-index-preserved c j from less begun =
    none_more (λ k. (c.args.front ≤ k) × HasEnded has_begun c.args.ends.now k) c.loop-index.index (λ k before (after, is). c.loop-index.invariant k after before is)
    (λ (after, is). not_here has_begun c.args.ends.now c.loop-index.index _ c.if-has_begun.ensures is) j less (from, begun)

pub returns : goal.returns
returns c j from (e, at, begun) = c.loop-index.invariant j from (omega (arith, slice_get_within c.args.ends.now j e at, c.loop-index-test.false)) (e, at, begun)
