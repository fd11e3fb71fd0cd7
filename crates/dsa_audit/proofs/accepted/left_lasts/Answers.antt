use Rattle.std.proofs.Common.{◌+◌, ◌∷◌, [], false, length, length-append, get_or, ap, refl, sym, subst, arith}
use Rattle.dsa_audit.specs.Repeats.{OrderMatters}
use Rattle.dsa_audit.specs.Steps.{AreLasts, IsLeftWithin}
use Rattle.dsa_audit.proofs.Accepting.{epoch_next, left_greatest}
use Rattle.dsa_audit.proofs.Guards.{IsLastGiven}
use Rattle.dsa_audit.proofs.LastConflicts.{more_lasts}
use Rattle.dsa_audit.proofs.accepted.left_lasts.Goals as goal

pub loop-at-preserved : goal.loop-at-preserved
loop-at-preserved g c =
    let C = OrderMatters c.args.relation.actions.now c.args.relation.members.now in
    let A = g.A.Acceptance.lists c.args.acceptance.now in
    let L = IsLeftWithin C A c.args.fences.now in
    let begun : IsLastGiven c.args.fences.now (c.loop-at.at + 1) c.epoch_of-epoch.result =
    epoch_next c.args.fences.now c.loop-at.at c.loop-at.epoch c.epoch_of-epoch.result (get_or c.args.fences.now c.loop-at.at false) refl c.epoch_of-epoch.ensures c.loop-at.invariant.begun in
    record {
      count = omega (arith, ap length c.in_ok-push.ensures.items, length-append c.loop-at.left.items (c.in_ok-last.last ∷ []), c.loop-at.invariant.count);
      left = subst (AreLasts L) (sym c.in_ok-push.ensures.items)
          (more_lasts L c.loop-at.left.items c.loop-at.at c.in_ok-last.last c.loop-at.invariant.count c.loop-at.invariant.left
          (left_greatest C A c.args.fences.now c.epoch_of-epoch.result c.loop-at.at c.in_ok-last.last begun c.in_ok-last.ensures));
      begun = begun;
    }
