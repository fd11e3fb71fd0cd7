use Rattle.std.proofs.Common.{◌∷◌, [], ap, length, length-append, sym, subst, arith}
use Rattle.dsa_audit.specs.Repeats.{OrderMatters}
use Rattle.dsa_audit.specs.Steps.{AreLasts}
use Rattle.dsa_audit.proofs.LastConflicts.{more_lasts}
use Rattle.dsa_audit.proofs.repeats.ordered_lasts.Goals as goal

pub loop-k-preserved : goal.loop-k-preserved
loop-k-preserved c =
    let C = OrderMatters c.args.actions.now c.args.members.now in
    record {
      lasts = subst (AreLasts C) (sym c.in_ok-push.ensures.items)
          (more_lasts C c.loop-k.ordered.items c.loop-k.k c.ordered_last-last.result c.loop-k.invariant.count c.loop-k.invariant.lasts c.ordered_last-last.ensures);
      count = omega (arith, ap length c.in_ok-push.ensures.items, length-append c.loop-k.ordered.items (c.ordered_last-last.result ∷ []), c.loop-k.invariant.count);
    }
