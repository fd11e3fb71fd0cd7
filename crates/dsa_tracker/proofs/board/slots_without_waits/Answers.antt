use Rattle.std.proofs.Common.{◌≡◌, false, true, sym, ◌∙◌}
use Rattle.dsa_tracker.specs.Sets.{IsEmpty}
use Rattle.dsa_tracker.specs.State.{waits_of}
use Rattle.dsa_tracker.proofs.Noting.{left_still, not_this, this_too}
use Rattle.dsa_tracker.proofs.board.slots_without_waits.Goals as goal

pub loop-slot-preserved : goal.loop-slot-preserved
loop-slot-preserved c =
    let taken = c.in-Some.ensures in
    record {
      found = not_this c.args.among c.loop-slot.found c.loop-slot.rest c.take_first.new.self (λ k. IsEmpty (waits_of c.args.waits.now k)) c.in-Some.slot taken.1 taken.2
          (λ h. let wrong : false ≡ true = sym c.if-is_empty.false ∙ c.is_empty.ensures.1 h in cc)
          c.loop-slot.invariant.rest c.loop-slot.invariant.found;
      rest = left_still c.args.among c.loop-slot.found c.loop-slot.rest c.take_first.new.self (λ k. IsEmpty (waits_of c.args.waits.now k)) c.in-Some.slot taken.1 taken.2 c.loop-slot.invariant.rest;
    }

pub loop-slot-preserved-then-is_empty : goal.loop-slot-preserved-then-is_empty
loop-slot-preserved-then-is_empty c =
    let taken = c.in-Some.ensures in
    record {
      found = this_too c.args.among c.loop-slot.found c.loop-slot.rest c.take_first.new.self (λ k. IsEmpty (waits_of c.args.waits.now k)) c.in-Some.slot taken.1 taken.2
          (c.is_empty.ensures.0 c.if-is_empty.true)
          c.loop-slot.invariant.rest c.with-found.result c.with-found.ensures c.loop-slot.invariant.found;
      rest = left_still c.args.among c.loop-slot.found c.loop-slot.rest c.take_first.new.self (λ k. IsEmpty (waits_of c.args.waits.now k)) c.in-Some.slot taken.1 taken.2 c.loop-slot.invariant.rest;
    }

pub returns : goal.returns
returns c = λ k.
    let none = c.in_default.ensures.0 in
    let at = c.loop-slot.invariant.found k in
    (λ h. let was = at.0 h in (was.0, was.2), λ h. at.1 (h.0, none k, h.1))
