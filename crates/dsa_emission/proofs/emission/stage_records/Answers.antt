use Rattle.dsa_emission.proofs.Places.{zeros_more}
use Rattle.dsa_emission.proofs.emission.stage_records.Goals as goal

pub loop-batch-preserved : goal.loop-batch-preserved
loop-batch-preserved c = zeros_more c.loop-batch.staging.items c.extend_from_slice.new.self.items c.args.staging.now.items c.loop-batch.batch c.loop-batch.invariant c.in_ok-extend_from_slice.ensures.items
