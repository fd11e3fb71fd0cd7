use Rattle.std.proofs.Common.{arith}
use Rattle.dsa_resume.specs.Barriers.{HasEnded}
use Rattle.dsa_resume.specs.Ended.{stops}
use Rattle.dsa_resume.proofs.Found.{ended_here, least_here, none_more, not_here}
use Rattle.dsa_resume.proofs.barriers.first_stop.Goals as goal

pub returns-then-stops : goal.returns-then-stops
returns-then-stops c = record {
  inside = c.loop-index-test.true;
  stop = ended_here stops c.args.ends.now c.loop-index.index _ (omega (arith, c.loop-index-test.true, c.requires)) c.if-stops.ensures;
  first = least_here (HasEnded stops c.args.ends.now) c.loop-index.index c.loop-index.invariant;
}

pub loop-index-preserved : goal.loop-index-preserved
loop-index-preserved c =
    none_more (HasEnded stops c.args.ends.now) c.loop-index.index c.loop-index.invariant
    (not_here stops c.args.ends.now c.loop-index.index _ c.if-stops.ensures)

pub returns : goal.returns
returns c i less = c.loop-index.invariant i (omega (arith, less, c.loop-index-test.false))
