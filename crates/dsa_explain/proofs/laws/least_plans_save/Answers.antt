use Rattle.dsa_explain.proofs.Singles.{least_saves}
use Rattle.dsa_explain.proofs.laws.least_plans_save.Goals as goal

pub returns : goal.returns
returns g c = least_saves g.C.Conflicts.conflict
