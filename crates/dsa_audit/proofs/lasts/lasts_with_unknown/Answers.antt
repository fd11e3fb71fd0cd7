use Rattle.std.proofs.Common.{◌∷◌, [], ap, length, length-append, sym, subst, arith}
use Rattle.dsa_audit.specs.Members.{PossibleConflict}
use Rattle.dsa_audit.specs.Steps.{AreLasts}
use Rattle.dsa_audit.proofs.LastConflicts.{more_lasts}
use Rattle.dsa_audit.proofs.lasts.lasts_with_unknown.Goals as goal

pub loop-k-preserved : goal.loop-k-preserved
loop-k-preserved c =
    record {
      lasts = subst (AreLasts (PossibleConflict c.args.members.now)) (sym c.in_ok-push.ensures.items)
          (more_lasts (PossibleConflict c.args.members.now) c.loop-k.lasts.items c.loop-k.k c.possible_last.result c.loop-k.invariant.count c.loop-k.invariant.lasts c.possible_last.ensures);
      count = omega (arith, ap length c.in_ok-push.ensures.items, length-append c.loop-k.lasts.items (c.possible_last.result ∷ []), c.loop-k.invariant.count);
      unknown = c.last_unknown-unknown.ensures;
    }
