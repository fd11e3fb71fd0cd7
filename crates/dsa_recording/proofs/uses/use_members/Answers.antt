use Rattle.dsa_recording.proofs.Taking.{first_more, first_none}
use Rattle.dsa_recording.proofs.uses.use_members.Goals as goal

pub loop-at-init : goal.loop-at-init
loop-at-init c = first_none c.args.judged.accepted.now c.args.judged.entries.now c.args.judged.audited.now c.args.members.now c.args.later c.args.used.now

pub loop-at-preserved : goal.loop-at-preserved
loop-at-preserved c =
    first_more c.args.judged.accepted.now c.args.judged.entries.now c.args.judged.audited.now c.args.members.now c.loop-at.at c.args.later
    c.args.used.now c.loop-at.used c.use_pair.new.used c.loop-at.invariant c.in_ok-use_pair.ensures
