use Rattle.std.proofs.Common.{arith}
use Rattle.dsa_conflicts.specs.Last.{IsLastOf}
use Rattle.dsa_audit.proofs.Reducing.{reducing_next, reducing_all}
use Rattle.dsa_audit.proofs.needless.drop_needless.Goals as goal

pub loop-at-preserved : goal.loop-at-preserved
loop-at-preserved c =
    rw (c.epoch-epoch.ensures, c.given-given.ensures, c.in_ok-push.ensures.items, c.in_ok-push-2.ensures.items, c.is_kept.ensures)
    (reducing_next (IsLastOf c.args.lasts.now) c.args.reasons.fallible.now c.args.reasons.visible.now c.args.reasons.held.now c.args.fences.now c.loop-at.at c.loop-at.given c.loop-at.epoch c.loop-at.uses.items c.loop-at.kept.items
    c.use_of-fence.result c.loop-at.invariant c.use_of-fence.ensures)

pub returns : goal.returns
returns c =
    reducing_all (IsLastOf c.args.lasts.now) c.args.reasons.fallible.now c.args.reasons.visible.now c.args.reasons.held.now c.args.fences.now c.loop-at.at c.loop-at.given c.loop-at.epoch c.loop-at.uses.items c.loop-at.kept.items
    c.loop-at.invariant (omega (arith, c.loop-at-test.false))
