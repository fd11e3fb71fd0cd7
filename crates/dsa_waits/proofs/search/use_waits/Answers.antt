use Rattle.dsa_waits.proofs.UsedWaits.{first_more}
use Rattle.dsa_waits.proofs.search.use_waits.Goals as goal

pub loop-i-preserved : goal.loop-i-preserved
loop-i-preserved c = (
  first_more c.args.keyed.accepted.now c.args.keyed.all.now c.args.keyed.submissions.now c.args.course.now c.args.outstanding.now c.loop-i.i c.args.entry
      c.args.used.now c.loop-i.used c.use_wait.new.used c.loop-i.invariant.0 c.in_ok-use_wait.ensures.used,
  c.in_ok-use_wait.ensures.known,
)
