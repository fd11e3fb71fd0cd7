use Rattle.dsa_prepared.proofs.Regions.{regions_keep_offsets}
use Rattle.dsa_prepared.proofs.keeping.regions_keep_offsets.Goals as goal

pub returns : goal.returns
returns c = regions_keep_offsets
