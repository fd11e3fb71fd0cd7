use Rattle.std.proofs.Common.{arith}
use Rattle.dsa_resume.specs.Barriers.{HasEnded}
use Rattle.dsa_resume.specs.Ended.{is_open}
use Rattle.dsa_resume.proofs.Found.{ended_here, none_more, not_here}
use Rattle.dsa_resume.proofs.barriers.first_open.Goals as goal

pub returns-then-is_open : goal.returns-then-is_open
returns-then-is_open c = record {
  within = omega (arith, c.loop-index-test.true);
  none = c.loop-index.invariant;
  here = λ inside. ended_here is_open c.args.ends.now c.loop-index.index _ c.loop-index-test.true c.if-is_open.ensures;
}

pub loop-index-preserved : goal.loop-index-preserved
loop-index-preserved c =
    none_more (HasEnded is_open c.args.ends.now) c.loop-index.index c.loop-index.invariant
    (not_here is_open c.args.ends.now c.loop-index.index _ c.if-is_open.ensures)

pub returns : goal.returns
returns c = record {
  within = omega arith;
  none = λ i less. c.loop-index.invariant i (omega (arith, less, c.loop-index-test.false));
  here = λ inside. absurd (omega (arith, inside));
}
