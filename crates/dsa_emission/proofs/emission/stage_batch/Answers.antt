use Rattle.std.proofs.Common.{◌<◌, length, ap, arith}
use Rattle.dsa_emission.proofs.Places.{batch_more}
use Rattle.dsa_emission.proofs.emission.stage_batch.Goals as goal

pub loop-k-preserved : goal.loop-k-preserved
loop-k-preserved g c =
    let within : c.loop-k.k < length c.args.pieces.now = omega (arith, c.loop-k-test.true, ap length c.fences-fences.ensures, c.requires) in
    batch_more _ g.E.Entry.spelling c.fences-fences.result.now c.args.pieces.now c.loop-k.k c.index-pieces-k.result c.args.staging.now.items c.loop-k.staging.items
    c.write_fenced_entry.result c.extend_from_slice.new.self.items c.loop-k-test.true within c.index-pieces-k.is c.loop-k.invariant c.write_fenced_entry.ensures c.in_ok-extend_from_slice.ensures.items
