use Rattle.std.proofs.Common.{◌<◌, arith}
use Rattle.dsa_settings.specs.Barriers.{IsBarrier}
use Rattle.dsa_resume.proofs.Found.{front_here, front_last, marked, none_more, not_marked}
use Rattle.dsa_resume.proofs.barriers.front_of.Goals as goal
use Rattle.dsa_resume.proofs.barriers.front_of.Goals.{else-unfinished-end-via-then-unfinished-end+else-mark_at, else-unfinished-end-via-else-unfinished-end}

pub returns-then-mark_at-clause-front : goal.returns-then-mark_at-clause-front
returns-then-mark_at-clause-front c =
    front_here c.args.barriers.now c.args.ends.now c.first_open-unfinished.result c.first_open-unfinished.ensures c.loop-end.end c.if-unfinished-end.true c.loop-end-test.true
    (marked c.args.barriers.now c.loop-end.end c.if-mark_at.ensures) c.loop-end.invariant

pub loop-end-preserved : goal.loop-end-preserved
loop-end-preserved c k from less barrier =
    none_more (λ x. (c.first_open-unfinished.result < x) × IsBarrier c.args.barriers.now x) c.loop-end.end (λ x before (after, is). c.loop-end.invariant x after before is)
    (λ (after, is). elim c.else-unfinished-end.branch [
      | else-unfinished-end-via-then-unfinished-end+else-mark_at w ↦ not_marked c.args.barriers.now c.loop-end.end w.if-mark_at.ensures is
      | else-unfinished-end-via-else-unfinished-end w ↦ omega (arith, after, w.if-unfinished-end.false)
    ]) k less (from, barrier)

pub returns-clause-front : goal.returns-clause-front
returns-clause-front c =
    front_last c.args.barriers.now c.args.ends.now c.first_open-unfinished.result c.first_open-unfinished.ensures
    (λ k from less. c.loop-end.invariant k from (omega (arith, less, c.loop-end-test.false)))
