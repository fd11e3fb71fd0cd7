use Rattle.std.proofs.Common.{ℕ, ◌≡◌, ◌*◌, ◌++◌, ◌≤◌, List, [], length, ap, ◌∙◌, arith}
use Rattle.std.specs.Prelude.{slice_index_or, replicate}
use Rattle.dsa_emission.specs.Emission.{place_of, group_staged, joined}
use Rattle.dsa_emission.proofs.Places.{counts_within, total_is, placed_at, placed_after, staged_is, joined_more}
use Rattle.dsa_emission.proofs.emission.staging_bytes.Goals as goal

pub overflow_mul-end : goal.overflow_mul-end
overflow_mul-end g c =
    let few : c.end_of-end.result.batched ≤ 65536 =
    omega (arith, (total_is c.args.groups.now c.end_of-end.result c.end_of-end.ensures).0, (counts_within c.args.groups.now).1, c.requires.covers, c.requires.few) in
    omega arith

pub overflow_add-end : goal.overflow_add-end
overflow_add-end g c =
    let total = total_is c.args.groups.now c.end_of-end.result c.end_of-end.ensures in
    let batched : c.end_of-end.result.batched ≤ 65536 = omega (arith, total.0, (counts_within c.args.groups.now).1, c.requires.covers, c.requires.few) in
    let batches : c.end_of-end.result.batches ≤ 65536 = omega (arith, total.1, (counts_within c.args.groups.now).0, c.requires.covers, c.requires.few) in
    omega arith

pub stage_group-requires : goal.stage_group-requires
stage_group-requires g c =
    omega (arith, (placed_at c.args.groups.now c.loop-group.group-index c.loop-group.place c.group-item.result c.loop-group.invariant.placed c.loop-group-test.true c.group-item.is).room, c.requires.covers)

pub after-place-requires-clause-few : goal.after-place-requires-clause-few
after-place-requires-clause-few g c =
    omega (arith, (placed_at c.args.groups.now c.loop-group.group-index c.loop-group.place c.group-item.result c.loop-group.invariant.placed c.loop-group-test.true c.group-item.is).room, c.requires.covers, c.requires.few)

pub after-place-requires-clause-batches : goal.after-place-requires-clause-batches
after-place-requires-clause-batches g c =
    (placed_at c.args.groups.now c.loop-group.group-index c.loop-group.place c.group-item.result c.loop-group.invariant.placed c.loop-group-test.true c.group-item.is).batches

pub after-place-requires-clause-batched : goal.after-place-requires-clause-batched
after-place-requires-clause-batched g c =
    (placed_at c.args.groups.now c.loop-group.group-index c.loop-group.place c.group-item.result c.loop-group.invariant.placed c.loop-group-test.true c.group-item.is).batched_pieces

pub loop-group-preserved : goal.loop-group-preserved
loop-group-preserved g c =
    record {
      placed = placed_after c.args.groups.now c.loop-group.group-index c.loop-group.place c.after-place.result c.group-item.result c.loop-group.invariant.placed c.loop-group-test.true c.group-item.is c.after-place.ensures;
      so_far = joined_more (λ number. group_staged g.E.Entry.spelling (place_of c.args.groups.now number) (slice_index_or c.args.groups.now number []) c.args.pieces.now)
          c.loop-group.group-index c.loop-group.staging.items c.stage_group.new.staging.items (group_staged g.E.Entry.spelling c.loop-group.place c.group-item.result c.args.pieces.now) c.loop-group.invariant.so_far
          c.in_ok-stage_group.ensures
          (staged_is _ g.E.Entry.spelling c.args.groups.now c.args.pieces.now c.loop-group.group-index c.loop-group.place c.group-item.result c.loop-group.invariant.placed c.loop-group-test.true c.group-item.is);
    }

pub returns : goal.returns
returns g c =
    let end : c.loop-group.group-index ≡ length c.args.groups.now = omega arith in
    c.in_ok-stage_records.ensures
    ∙ ap (λ (bytes : List ℕ). bytes ++ replicate (32 * c.end_of-end.result.batches) 0) c.loop-group.invariant.so_far
    ∙ ap (λ (n : ℕ). joined (λ number. group_staged g.E.Entry.spelling (place_of c.args.groups.now number) (slice_index_or c.args.groups.now number []) c.args.pieces.now) n ++ replicate (32 * c.end_of-end.result.batches) 0) end
    ∙ ap (λ (n : ℕ). joined (λ number. group_staged g.E.Entry.spelling (place_of c.args.groups.now number) (slice_index_or c.args.groups.now number []) c.args.pieces.now) (length c.args.groups.now) ++ replicate (32 * n) 0)
    (total_is c.args.groups.now c.end_of-end.result c.end_of-end.ensures).1
