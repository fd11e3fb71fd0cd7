use Rattle.dsa_prepared.proofs.ByRegions.{choice_stays}
use Rattle.dsa_prepared.proofs.keeping.choice_stays.Goals as goal

pub returns : goal.returns
returns c = choice_stays
