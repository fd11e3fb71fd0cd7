use Rattle.std.proofs.Common.{[], length, ap, sym, arith}
use Rattle.std.specs.Prelude.{slice_index_or}
use Rattle.std.proofs.lemmas.List.Sums.{sum_by_more}
use Rattle.dsa_settings.specs.Plan.{Group}
use Rattle.dsa_emission.specs.Emission.{place_of}
use Rattle.dsa_emission.proofs.Places.{placed, group_read}
use Rattle.dsa_prepared.specs.Templates.{group_staged}
use Rattle.dsa_prepared.proofs.GroupEntries.{gathered_more, staged_here}
use Rattle.dsa_prepared.proofs.groups.staging_entries.Goals as goal

pub stage_group-requires-clause-within : goal.stage_group-requires-clause-within
stage_group-requires-clause-within c =
    let p = placed c.args.groups.now c.loop-group.group-index c.group-item.result c.loop-group-test.true c.group-item.is in
    omega (arith, p.room, c.requires.covers, c.loop-group.invariant.starts)

pub overflow_add-start : goal.overflow_add-start
overflow_add-start c =
    let p = placed c.args.groups.now c.loop-group.group-index c.group-item.result c.loop-group-test.true c.group-item.is in
    omega (arith, p.room, c.requires.covers, c.requires.few, c.loop-group.invariant.starts, c.len-start.ensures)

pub loop-group-preserved : goal.loop-group-preserved
loop-group-preserved c =
    record {
      starts = omega (arith, c.loop-group.invariant.starts, c.len-start.ensures, sum_by_more length c.args.groups.now c.loop-group.group-index c.group-item.result c.loop-group-test.true, ap length c.group-item.is);
      so_far = gathered_more (λ number. group_staged c.args.regions.now (place_of c.args.groups.now number) (slice_index_or c.args.groups.now number []) c.args.pieces.now)
          c.loop-group.group-index c.loop-group.entries.items c.stage_group.new.entries.items (group_staged c.args.regions.now (place_of c.args.groups.now c.loop-group.group-index) c.group-item.result c.args.pieces.now)
          c.loop-group.invariant.so_far
          (staged_here c.args.regions.now c.args.groups.now c.loop-group.group-index c.group-item.result c.loop-group.start c.args.pieces.now c.loop-group.entries.items c.stage_group.new.entries.items c.loop-group.invariant.starts c.in_ok-stage_group.ensures)
          (ap (λ (g : Group). group_staged c.args.regions.now (place_of c.args.groups.now c.loop-group.group-index) g c.args.pieces.now) (sym (group_read c.args.groups.now c.loop-group.group-index c.group-item.result c.loop-group-test.true c.group-item.is)));
    }
