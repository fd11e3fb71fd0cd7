use Rattle.std.proofs.Common.{◌≡◌, ◌+◌, ◌*◌, false, true, sym, ◌∙◌, subst}
use Rattle.dsa_tracker.specs.Kept.{Touches, store_at}
use Rattle.dsa_tracker.proofs.Noting.{left_still, not_this, this_too}
use Rattle.dsa_tracker.proofs.finding.slots_that_touch.Goals as goal

pub loop-slot-preserved : goal.loop-slot-preserved
loop-slot-preserved c =
    let taken = c.in-Some.ensures in
    record {
      found = not_this c.args.among c.loop-slot.found c.loop-slot.rest c.take_first.new.self
          (λ k. Touches (store_at c.args.width c.args.stores.now (2 * k + c.args.side)) c.args.first c.args.last) c.in-Some.slot taken.1 taken.2
          (λ t. let wrong : false ≡ true = sym c.if-touches.false ∙ c.touches.ensures.1 (subst (λ s. Touches s c.args.first c.args.last) (sym c.store.ensures) t) in cc)
          c.loop-slot.invariant.rest c.loop-slot.invariant.found;
      rest = left_still c.args.among c.loop-slot.found c.loop-slot.rest c.take_first.new.self
          (λ k. Touches (store_at c.args.width c.args.stores.now (2 * k + c.args.side)) c.args.first c.args.last) c.in-Some.slot taken.1 taken.2 c.loop-slot.invariant.rest;
    }

pub returns : goal.returns
returns c = λ k.
    let none = c.in_default.ensures.0 in
    let at = c.loop-slot.invariant.found k in
    (λ h. let was = at.0 h in (was.0, was.2), λ h. at.1 (h.0, none k, h.1))

pub loop-slot-preserved-then-touches : goal.loop-slot-preserved-then-touches
loop-slot-preserved-then-touches c =
    let taken = c.in-Some.ensures in
    record {
      found = this_too c.args.among c.loop-slot.found c.loop-slot.rest c.take_first.new.self
          (λ k. Touches (store_at c.args.width c.args.stores.now (2 * k + c.args.side)) c.args.first c.args.last) c.in-Some.slot taken.1 taken.2
          (subst (λ s. Touches s c.args.first c.args.last) c.store.ensures (c.touches.ensures.0 c.if-touches.true))
          c.loop-slot.invariant.rest c.with-found.result c.with-found.ensures c.loop-slot.invariant.found;
      rest = left_still c.args.among c.loop-slot.found c.loop-slot.rest c.take_first.new.self
          (λ k. Touches (store_at c.args.width c.args.stores.now (2 * k + c.args.side)) c.args.first c.args.last) c.in-Some.slot taken.1 taken.2 c.loop-slot.invariant.rest;
    }
