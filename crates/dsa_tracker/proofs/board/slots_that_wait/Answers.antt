use Rattle.std.proofs.Common.{◌≡◌, false, true, sym, ◌∙◌}
use Rattle.dsa_tracker.specs.Sets.{Has}
use Rattle.dsa_tracker.specs.State.{waits_of}
use Rattle.dsa_tracker.proofs.Noting.{left_still, not_this, this_too}
use Rattle.dsa_tracker.proofs.board.slots_that_wait.Goals as goal

pub loop-other-preserved : goal.loop-other-preserved
loop-other-preserved c =
    let taken = c.in-Some.ensures in
    record {
      found = not_this c.args.among c.loop-other.found c.loop-other.rest c.take_first.new.self (λ k. Has (waits_of c.args.waits.now k) c.args.slot) c.in-Some.other taken.1 taken.2
          (λ h. let wrong : false ≡ true = sym c.if-contains.false ∙ c.contains.ensures.1 h in cc)
          c.loop-other.invariant.rest c.loop-other.invariant.found;
      rest = left_still c.args.among c.loop-other.found c.loop-other.rest c.take_first.new.self (λ k. Has (waits_of c.args.waits.now k) c.args.slot) c.in-Some.other taken.1 taken.2 c.loop-other.invariant.rest;
    }

pub loop-other-preserved-then-contains : goal.loop-other-preserved-then-contains
loop-other-preserved-then-contains c =
    let taken = c.in-Some.ensures in
    record {
      found = this_too c.args.among c.loop-other.found c.loop-other.rest c.take_first.new.self (λ k. Has (waits_of c.args.waits.now k) c.args.slot) c.in-Some.other taken.1 taken.2
          (c.contains.ensures.0 c.if-contains.true)
          c.loop-other.invariant.rest c.with-found.result c.with-found.ensures c.loop-other.invariant.found;
      rest = left_still c.args.among c.loop-other.found c.loop-other.rest c.take_first.new.self (λ k. Has (waits_of c.args.waits.now k) c.args.slot) c.in-Some.other taken.1 taken.2 c.loop-other.invariant.rest;
    }

pub returns : goal.returns
returns c = λ k.
    let none = c.in_default.ensures.0 in
    let at = c.loop-other.invariant.found k in
    (λ h. let was = at.0 h in (was.0, was.2), λ h. at.1 (h.0, none k, h.1))
