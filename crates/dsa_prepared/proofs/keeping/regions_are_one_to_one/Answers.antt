use Rattle.dsa_prepared.proofs.Regions.{regions_are_one_to_one}
use Rattle.dsa_prepared.proofs.keeping.regions_are_one_to_one.Goals as goal

pub returns : goal.returns
returns c = regions_are_one_to_one
