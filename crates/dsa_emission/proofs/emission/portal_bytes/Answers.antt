use Rattle.std.proofs.Common.{◌≤◌, [], length, arith}
use Rattle.std.specs.Prelude.{slice_index_or}
use Rattle.dsa_emission.specs.Emission.{batched_count, place_of, group_entry}
use Rattle.dsa_emission.proofs.Places.{counts_within, total_is, groups_within, placed_at, placed_after, shaped_at, entry_is, joined_more}
use Rattle.dsa_emission.proofs.emission.portal_bytes.Goals as goal

pub overflow_mul-groups : goal.overflow_mul-groups
overflow_mul-groups g c =
    let few : length c.args.groups.now ≤ 65536 = omega (arith, groups_within c.args.settings.now.greatest_batch c.args.groups.now c.requires.shapes, c.requires.covers, c.requires.few) in omega arith

pub entry_bytes-requires-clause-nonempty : goal.entry_bytes-requires-clause-nonempty
entry_bytes-requires-clause-nonempty g c =
    shaped_at c.args.settings.now.greatest_batch c.args.groups.now c.loop-group.group-index c.group-item.result c.requires.shapes c.loop-group-test.true c.group-item.is

pub entry_bytes-requires-clause-within : goal.entry_bytes-requires-clause-within
entry_bytes-requires-clause-within g c =
    omega (arith, (placed_at c.args.groups.now c.loop-group.group-index c.loop-group.place c.group-item.result c.loop-group.invariant.placed c.loop-group-test.true c.group-item.is).room, c.requires.covers)

pub entry_bytes-requires-clause-batches : goal.entry_bytes-requires-clause-batches
entry_bytes-requires-clause-batches g c =
    omega (arith, (placed_at c.args.groups.now c.loop-group.group-index c.loop-group.place c.group-item.result c.loop-group.invariant.placed c.loop-group-test.true c.group-item.is).batches, (placed_at c.args.groups.now c.loop-group.group-index c.loop-group.place c.group-item.result c.loop-group.invariant.placed c.loop-group-test.true c.group-item.is).room, c.requires.covers, c.requires.few)

pub entry_bytes-requires-clause-batched : goal.entry_bytes-requires-clause-batched
entry_bytes-requires-clause-batched g c =
    omega (arith, (placed_at c.args.groups.now c.loop-group.group-index c.loop-group.place c.group-item.result c.loop-group.invariant.placed c.loop-group-test.true c.group-item.is).batched_pieces, (placed_at c.args.groups.now c.loop-group.group-index c.loop-group.place c.group-item.result c.loop-group.invariant.placed c.loop-group-test.true c.group-item.is).room, c.requires.covers, c.requires.few)

pub entry_bytes-requires-clause-total : goal.entry_bytes-requires-clause-total
entry_bytes-requires-clause-total g c =
    omega (arith, (total_is c.args.groups.now c.end_of-total.result c.end_of-total.ensures).0, (counts_within c.args.groups.now).1, c.requires.covers, c.requires.few)

pub after-place-requires-clause-few : goal.after-place-requires-clause-few
after-place-requires-clause-few g c =
    omega (arith, (placed_at c.args.groups.now c.loop-group.group-index c.loop-group.place c.group-item.result c.loop-group.invariant.placed c.loop-group-test.true c.group-item.is).room, c.requires.covers, c.requires.few)

pub after-place-requires-clause-batches : goal.after-place-requires-clause-batches
after-place-requires-clause-batches g c =
    (placed_at c.args.groups.now c.loop-group.group-index c.loop-group.place c.group-item.result c.loop-group.invariant.placed c.loop-group-test.true c.group-item.is).batches

pub after-place-requires-clause-batched : goal.after-place-requires-clause-batched
after-place-requires-clause-batched g c =
    (placed_at c.args.groups.now c.loop-group.group-index c.loop-group.place c.group-item.result c.loop-group.invariant.placed c.loop-group-test.true c.group-item.is).batched_pieces

pub loop-group-preserved : goal.loop-group-preserved
loop-group-preserved g c =
    record {
      placed = placed_after c.args.groups.now c.loop-group.group-index c.loop-group.place c.after-place.result c.group-item.result c.loop-group.invariant.placed c.loop-group-test.true c.group-item.is c.after-place.ensures;
      so_far = joined_more (λ number. group_entry g.E.Entry.spelling c.args.settings.now (batched_count c.args.groups.now) (place_of c.args.groups.now number) (slice_index_or c.args.groups.now number []) c.args.pieces.now)
          c.loop-group.group-index c.loop-group.portal.items c.extend_from_slice.new.self.items c.entry_bytes.result c.loop-group.invariant.so_far c.in_ok-extend_from_slice.ensures.items
          (entry_is _ g.E.Entry.spelling c.args.settings.now c.args.groups.now c.args.pieces.now c.loop-group.group-index c.end_of-total.result.batched c.loop-group.place c.group-item.result c.entry_bytes.result
          (total_is c.args.groups.now c.end_of-total.result c.end_of-total.ensures).0 c.loop-group.invariant.placed c.loop-group-test.true c.group-item.is c.entry_bytes.ensures);
    }
