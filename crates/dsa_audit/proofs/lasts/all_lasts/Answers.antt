use Rattle.std.proofs.Common.{◌∷◌, [], ap, length, length-append, sym, subst, arith}
use Rattle.dsa_audit.specs.Members.{KnownConflict}
use Rattle.dsa_audit.specs.Steps.{AreLasts}
use Rattle.dsa_audit.proofs.LastConflicts.{more_lasts}
use Rattle.dsa_audit.proofs.lasts.all_lasts.Goals as goal

pub loop-k-preserved : goal.loop-k-preserved
loop-k-preserved c =
    let C = KnownConflict c.args.members.now in
    record {
      lasts = subst (AreLasts C) (sym c.in_ok-push.ensures.items)
          (more_lasts C c.loop-k.lasts.items c.loop-k.k c.known_last.result c.loop-k.invariant.count c.loop-k.invariant.lasts c.known_last.ensures);
      count = omega (arith, ap length c.in_ok-push.ensures.items, length-append c.loop-k.lasts.items (c.known_last.result ∷ []), c.loop-k.invariant.count);
    }
