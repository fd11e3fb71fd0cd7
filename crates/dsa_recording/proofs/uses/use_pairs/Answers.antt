use Rattle.std.proofs.Common.{subst, arith}
use Rattle.dsa_recording.specs.Uses.{IsEpochOf}
use Rattle.dsa_recording.proofs.Taking.{below_all, below_more, below_none, epoch_first, epoch_next}
use Rattle.dsa_recording.proofs.uses.use_pairs.Goals as goal

pub loop-later-init : goal.loop-later-init
loop-later-init c = (
  epoch_first c.args.judged.audited.now.fences.items,
  below_none c.args.judged.accepted.now c.args.judged.entries.now c.args.judged.audited.now c.args.used.now,
)

pub loop-later-preserved : goal.loop-later-preserved
loop-later-preserved c = (
  epoch_next c.args.judged.audited.now.fences.items c.loop-later.later c.epoch_after-epoch.result
      (subst (λ l. IsEpochOf l c.loop-later.later c.epoch_after-epoch.result) c.deref.ensures.value c.epoch_after-epoch.ensures),
  below_more c.args.judged.accepted.now c.args.judged.entries.now c.args.judged.audited.now c.loop-later.later c.args.used.now c.loop-later.used c.use_later.new.used
      c.loop-later.invariant.1 c.in_ok-use_later.ensures,
)

pub returns : goal.returns
returns c =
    below_all c.args.judged.accepted.now c.args.judged.entries.now c.args.judged.audited.now c.loop-later.later c.args.used.now c.loop-later.used
    (omega (arith, c.loop-later-test.false, c.requires.count)) c.loop-later.invariant.1
