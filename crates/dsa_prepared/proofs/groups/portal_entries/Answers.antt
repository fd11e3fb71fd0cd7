use Rattle.std.proofs.Common.{◌≡◌, ◌+◌, ◌*◌, length, ap, sym, ◌∙◌, Some, arith}
use Rattle.std.proofs.lemmas.Option.{slice_get-get_or}
use Rattle.dsa_emission.specs.declared.place.Place.{Place}
use Rattle.dsa_settings.specs.Plan.{piece_count}
use Rattle.dsa_emission.specs.Emission.{batched_count, place_of}
use Rattle.dsa_emission.proofs.Places.{placed, place_of-next}
use Rattle.dsa_prepared.proofs.GroupEntries.{batched_few, portal_next, total_few}
use Rattle.dsa_prepared.proofs.groups.portal_entries.Goals as goal

pub overflow_mul-record_at : goal.overflow_mul-record_at
overflow_mul-record_at c =
    let few = total_few c.args.groups.now (length c.args.pieces.now) c.batched_total-total.result c.requires.covers c.requires.few c.batched_total-total.ensures in
    omega (arith, few)

pub overflow_add-record_at : goal.overflow_add-record_at
overflow_add-record_at c =
    let few = total_few c.args.groups.now (length c.args.pieces.now) c.batched_total-total.result c.requires.covers c.requires.few c.batched_total-total.ensures in
    let p = placed c.args.groups.now c.loop-group.group-index c.group-item.result c.loop-group-test.true c.group-item.is in
    omega (arith, few, p.batches, p.room, c.requires.covers, c.requires.few, c.loop-group.invariant.batches_are)

pub overflow_mul-list_at : goal.overflow_mul-list_at
overflow_mul-list_at c =
    let p = placed c.args.groups.now c.loop-group.group-index c.group-item.result c.loop-group-test.true c.group-item.is in
    omega (arith, p.batched_pieces, p.room, c.requires.covers, c.requires.few, c.loop-group.invariant.batched_are)

pub group_entry-requires-clause-nonempty : goal.group_entry-requires-clause-nonempty
group_entry-requires-clause-nonempty c =
    c.requires.nonempty c.loop-group.group-index c.group-item.result
    (slice_get-get_or c.args.groups.now c.loop-group.group-index c.group-item.result c.loop-group-test.true ∙ ap Some (sym c.group-item.is))

pub overflow_add-batched : goal.overflow_add-batched
overflow_add-batched c =
    let covers : piece_count c.args.groups.now ≡ length c.args.pieces.now = c.requires.covers in
    let few = batched_few c.args.groups.now c.loop-group.group-index c.group-item.result c.loop-group-test.true c.group-item.is (omega (arith, covers, c.requires.few)) in
    omega (arith, few, c.loop-group.invariant.batched_are, c.batched_of-batched.ensures)

pub loop-group-preserved : goal.loop-group-preserved
loop-group-preserved c =
    let next = place_of-next c.args.groups.now c.loop-group.group-index c.group-item.result c.loop-group-test.true c.group-item.is in
    let before = c.loop-group.invariant in
    let record_at : 64 * batched_count c.args.groups.now + 32 * (place_of c.args.groups.now c.loop-group.group-index).batches ≡ 64 * c.batched_total-total.result + 32 * c.loop-group.batches =
    omega (arith, before.batches_are, c.batched_total-total.ensures) in
    let list_at : 64 * (place_of c.args.groups.now c.loop-group.group-index).batched ≡ 64 * c.loop-group.batched = omega (arith, before.batched_are) in
    let made = c.group_entry.ensures (batched_count c.args.groups.now) (place_of c.args.groups.now c.loop-group.group-index) (sym before.starts) record_at list_at in
    record {
      starts = omega (arith, before.starts, c.len-start.ensures, ap (λ (p : Place). p.start) next);
      batches_are = omega (arith, before.batches_are, c.batches_of-batches.ensures, ap (λ (p : Place). p.batches) next);
      batched_are = omega (arith, before.batched_are, c.batched_of-batched.ensures, ap (λ (p : Place). p.batched) next);
      so_far = portal_next c.args.regions.now c.args.groups.now c.args.pieces.now c.loop-group.group-index c.group-item.result
          c.loop-group.entries.items c.push.new.self.items c.group_entry.result c.loop-group-test.true c.group-item.is before.so_far c.in_ok-push.ensures.items made;
    }
