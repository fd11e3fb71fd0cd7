use Rattle.std.proofs.Common.{arith}
use Rattle.dsa_settings.specs.Sweeps.{HasSeen}
use Rattle.dsa_settings.proofs.Swept.{none_from_walk, seen_more, walk_more}
use Rattle.dsa_settings.proofs.sweep.walk.Goals as goal

pub loop-access-preserved : goal.loop-access-preserved
loop-access-preserved c = record {
  ordered = c.with-seen.ensures.ordered;
  seen = seen_more (HasSeen c.with-seen.result) c.args.accesses.now c.loop-access.access-index _ c.loop-access-test.true
      (λ i d before. c.with-seen.ensures.kept _ (c.loop-access.invariant.seen i d before)) c.with-seen.ensures.added;
  clear = walk_more c.args.accesses.now c.loop-access.seen c.loop-access.access-index _ c.loop-access-test.true c.requires c.loop-access.invariant.seen c.loop-access.invariant.clear
      (λ a had before. c.may_meet.ensures a c.if-may_meet.false had before);
}

pub returns : goal.returns
returns c _ = none_from_walk c.args.accesses.now (λ i j d before within. c.loop-access.invariant.clear i j d before (omega arith))
