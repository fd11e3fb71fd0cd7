use Rattle.dsa_search.proofs.Searched.{lasts_are_enough}
use Rattle.dsa_search.proofs.laws.lasts_are_enough.Goals as goal

pub returns : goal.returns
returns g c = lasts_are_enough g.C.Conflicts.conflict
