use Rattle.dsa_emission.proofs.Places.{placed_at}
use Rattle.dsa_emission.proofs.emission.end_of.Goals as goal

pub after-place-requires-clause-batches : goal.after-place-requires-clause-batches
after-place-requires-clause-batches c =
    (placed_at c.args.groups.now c.loop-group.group-index c.loop-group.place c.group-item.result c.loop-group.invariant c.loop-group-test.true c.group-item.is).batches

pub after-place-requires-clause-batched : goal.after-place-requires-clause-batched
after-place-requires-clause-batched c =
    (placed_at c.args.groups.now c.loop-group.group-index c.loop-group.place c.group-item.result c.loop-group.invariant c.loop-group-test.true c.group-item.is).batched_pieces
