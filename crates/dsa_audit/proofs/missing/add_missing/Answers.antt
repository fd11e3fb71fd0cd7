use Rattle.std.proofs.Common.{arith}
use Rattle.dsa_conflicts.specs.Last.{IsLastOf}
use Rattle.dsa_audit.proofs.Scanned.{scanned_next, scanned_all}
use Rattle.dsa_audit.proofs.missing.add_missing.Goals as goal

pub loop-at-preserved : goal.loop-at-preserved
loop-at-preserved c =
    rw (c.epoch-epoch.ensures, c.in_ok-push.ensures.items, c.in_ok-push-2.ensures.items, c.is_fenced.ensures)
    (scanned_next (IsLastOf c.args.lasts.now) c.args.fences.now c.loop-at.at c.loop-at.epoch c.loop-at.places.items c.loop-at.corrected.items
    c.place_of-place.result c.loop-at.invariant c.loop-at-test.true c.place_of-place.ensures)

pub returns : goal.returns
returns c =
    scanned_all (IsLastOf c.args.lasts.now) c.args.fences.now c.loop-at.at c.loop-at.epoch c.loop-at.places.items c.loop-at.corrected.items
    c.loop-at.invariant (omega (arith, c.loop-at-test.false))
