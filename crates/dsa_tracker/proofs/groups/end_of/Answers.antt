use Rattle.std.proofs.Common.{◌≡◌, ◌+◌, ℕ, length, sym, ap, ◌∙◌, arith}
use Rattle.dsa_emission.specs.declared.place.Place.{Place}
use Rattle.dsa_emission.specs.Emission.{place_of}
use Rattle.dsa_emission.proofs.Places.{placed_after, placed_at}
use Rattle.dsa_tracker.specs.Before.{place_by}
use Rattle.dsa_tracker.proofs.Grouped.{ends}
use Rattle.dsa_tracker.proofs.groups.end_of.Goals as goal

pub after-before-requires-clause-batches : goal.after-before-requires-clause-batches
after-before-requires-clause-batches c =
    (placed_at c.args.groups.now c.loop-group.group-index (place_by c.loop-group.before) c.group-item.result c.loop-group.invariant.placed c.loop-group-test.true c.group-item.is).batches

pub after-before-requires-clause-batched : goal.after-before-requires-clause-batched
after-before-requires-clause-batched c =
    (placed_at c.args.groups.now c.loop-group.group-index (place_by c.loop-group.before) c.group-item.result c.loop-group.invariant.placed c.loop-group-test.true c.group-item.is).batched_pieces

pub returns-then-len-pieces : goal.returns-then-len-pieces
returns-then-len-pieces c = λ same.
    let room = (placed_at c.args.groups.now c.loop-group.group-index (place_by c.loop-group.before) c.group-item.result c.loop-group.invariant.placed c.loop-group-test.true c.group-item.is).room in
    omega (arith, same, room, c.len.ensures, c.if-len-pieces.true, c.loop-group.invariant.few)

pub loop-group-preserved : goal.loop-group-preserved
loop-group-preserved c =
    record {
      placed = placed_after c.args.groups.now c.loop-group.group-index (place_by c.loop-group.before) (place_by c.after-before.result) c.group-item.result c.loop-group.invariant.placed c.loop-group-test.true c.group-item.is c.after-before.ensures;
      few =
          let start : c.after-before.result.start ≡ c.loop-group.before.start + length c.group-item.result = ap (λ (p : Place). p.start) c.after-before.ensures in
          omega (arith, start, c.len.ensures, c.if-len-pieces.false, c.loop-group.invariant.few);
    }

pub returns-then-before-pieces : goal.returns-then-before-pieces
returns-then-before-pieces c = λ same. c.if-before-pieces.true (ends c.args.groups.now (place_by c.loop-group.before) c.loop-group.group-index c.loop-group.invariant.placed c.loop-group-test.false ∙ same)

pub returns : goal.returns
returns c = (
  sym (ends c.args.groups.now (place_by c.loop-group.before) c.loop-group.group-index c.loop-group.invariant.placed c.loop-group-test.false) ∙ c.if-before-pieces.false,
  let end : c.loop-group.group-index ≡ length c.args.groups.now = omega arith in
      c.loop-group.invariant.placed ∙ ap (λ (n : ℕ). place_of c.args.groups.now n) end,
)
