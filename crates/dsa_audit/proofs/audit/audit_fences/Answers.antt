use Rattle.std.proofs.Common.{◌≡◌, length, ap, sym, subst, arith}
use Rattle.dsa_audit.specs.Repeats.{OrderMatters}
use Rattle.dsa_audit.specs.Audits.{IsCorrected}
use Rattle.dsa_conflicts.specs.Last.{IsLastOf}
use Rattle.dsa_audit.specs.Steps.{AreLasts, IsLeftWithin}
use Rattle.dsa_audit.proofs.Accepting.{corrected_of, last_before, left_of}
use Rattle.dsa_audit.proofs.audit.audit_fences.Goals as goal

pub add_missing-requires-clause-count : goal.add_missing-requires-clause-count
add_missing-requires-clause-count g c =
    omega (arith, ap length c.deref-4.ensures.value, c.in_ok-ordered.ensures.count, ap length c.deref-2.ensures.value, c.in_ok-known.ensures.count, c.requires.operands)

pub add_missing-requires-clause-before : goal.add_missing-requires-clause-before
add_missing-requires-clause-before g c a b last =
    last_before (OrderMatters c.args.actions.now c.args.operands.now) c.deref-4.result.now a b
    (subst (AreLasts (OrderMatters c.args.actions.now c.args.operands.now)) (sym c.deref-4.ensures.value) c.in_ok-ordered.ensures.lasts) last

pub returns : goal.returns
returns g c =
    let K = OrderMatters c.args.actions.now c.args.operands.now in
    let A = g.A.Acceptance.lists c.args.acceptance.now in
    let first : IsCorrected (IsLastOf c.in_ok-ordered.ordered.items) c.args.fences.now c.in_ok-unaccepted.unaccepted.places.items c.in_ok-unaccepted.unaccepted.fences.items =
    rw (← c.deref-4.ensures.value) c.in_ok-unaccepted.ensures in
    let second : IsCorrected (IsLastOf c.in_ok-left.left.items) c.args.fences.now c.in_ok-corrected.corrected.places.items c.in_ok-corrected.corrected.fences.items =
    rw (← c.deref-7.ensures.value) c.in_ok-corrected.ensures in
    let count : length c.in_ok-ordered.ordered.items ≡ length c.args.fences.now =
    omega (arith, c.in_ok-ordered.ensures.count, ap length c.deref-2.ensures.value, c.in_ok-known.ensures.count, c.requires.operands) in
    record {
      repeated = c.in_ok-repeated.ensures;
      unaccepted = corrected_of K c.in_ok-ordered.ordered.items c.args.fences.now c.in_ok-unaccepted.unaccepted.places.items c.in_ok-unaccepted.unaccepted.fences.items count
          c.in_ok-ordered.ensures.lasts first;
      accepted = rw (← c.deref-5.ensures.value) c.in_ok-accepted.ensures;
      corrected = left_of K A c.args.fences.now c.in_ok-corrected.corrected.places.items c.in_ok-corrected.corrected.fences.items
          (corrected_of (IsLeftWithin K A c.args.fences.now) c.in_ok-left.left.items c.args.fences.now c.in_ok-corrected.corrected.places.items
          c.in_ok-corrected.corrected.fences.items c.in_ok-left.ensures.count c.in_ok-left.ensures.left second);
      lasts = c.in_ok-lasts.ensures.lasts;
      all = c.in_ok-lasts.ensures.all;
      reduced = rw (← c.deref-8.ensures.value, ← c.deref-9.ensures.value) c.in_ok-reduced.ensures;
    }
