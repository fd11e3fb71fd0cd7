use Rattle.std.proofs.Common.{arith}
use Rattle.dsa_waits.proofs.UsedWaits.{between_more}
use Rattle.dsa_waits.proofs.search.use_all_waits.Goals as goal

pub loop-entry-preserved : goal.loop-entry-preserved
loop-entry-preserved c =
    between_more c.args.keyed.accepted.now c.args.keyed.all.now c.args.keyed.submissions.now c.args.course.now c.args.outstanding.now c.args.from c.loop-entry.entry
    c.args.used.now c.loop-entry.used c.use_waits.new.used (omega arith) c.loop-entry.invariant c.in_ok-use_waits.ensures
