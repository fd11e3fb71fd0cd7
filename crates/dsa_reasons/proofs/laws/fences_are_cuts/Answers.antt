use Rattle.dsa_reasons.proofs.OneGroup.{fences_are_cuts}
use Rattle.dsa_reasons.proofs.laws.fences_are_cuts.Goals as goal

pub returns : goal.returns
returns g c = fences_are_cuts g.P.Touching.reads g.P.Touching.writes g.P.Touching.conflict
