use Rattle.std.proofs.Common.{◌+◌, ◌∷◌, [], false, length, length-append, get_or, ap, refl, sym, subst, arith}
use Rattle.dsa_audit.specs.Members.{IsUnknownAt, PossibleConflict}
use Rattle.dsa_audit.specs.Steps.{AreLasts, IsOuterConflict}
use Rattle.dsa_audit.proofs.Accepting.{epoch_next}
use Rattle.dsa_audit.proofs.Guards.{IsLastGiven}
use Rattle.dsa_audit.proofs.LastConflicts.{more_lasts}
use Rattle.dsa_audit.proofs.OuterLasts.{outer_greatest, outside_next}
use Rattle.dsa_audit.proofs.outer.outer_lasts.Goals as goal

pub outer_last-requires-clause-unknown : goal.outer_last-requires-clause-unknown
outer_last-requires-clause-unknown c =
    outside_next (IsUnknownAt c.args.members.now) c.loop-at.at c.loop-at.epoch c.epoch_of-epoch.result c.loop-at.outside c.loop-at.unknown c.outside_of-outside.result (get_or c.args.fences.now c.loop-at.at false)
    c.epoch_of-epoch.ensures c.outside_of-outside.ensures c.loop-at.invariant.outside c.loop-at.invariant.unknown

pub loop-at-preserved : goal.loop-at-preserved
loop-at-preserved c =
    let P = PossibleConflict c.args.members.now in
    let L = IsOuterConflict P c.args.fences.now in
    let begun : IsLastGiven c.args.fences.now (c.loop-at.at + 1) c.epoch_of-epoch.result =
    epoch_next c.args.fences.now c.loop-at.at c.loop-at.epoch c.epoch_of-epoch.result (get_or c.args.fences.now c.loop-at.at false) refl c.epoch_of-epoch.ensures c.loop-at.invariant.begun in
    record {
      count = omega (arith, ap length c.in_ok-push.ensures.items, length-append c.loop-at.outers.items (c.outer_last.result ∷ []), c.loop-at.invariant.count);
      outers = subst (AreLasts L) (sym c.in_ok-push.ensures.items)
          (more_lasts L c.loop-at.outers.items c.loop-at.at c.outer_last.result c.loop-at.invariant.count c.loop-at.invariant.outers
          (outer_greatest P c.args.fences.now c.epoch_of-epoch.result c.loop-at.at c.outer_last.result begun c.outer_last.ensures));
      begun = begun;
      outside = outside_next (IsUnknownAt c.args.members.now) c.loop-at.at c.loop-at.epoch c.epoch_of-epoch.result c.loop-at.outside c.loop-at.unknown c.outside_of-outside.result
          (get_or c.args.fences.now c.loop-at.at false) c.epoch_of-epoch.ensures c.outside_of-outside.ensures c.loop-at.invariant.outside c.loop-at.invariant.unknown;
      unknown = c.last_unknown-unknown.ensures;
    }
