use Rattle.dsa_c.proofs.WithoutFences.{planned_without_fences}
use Rattle.dsa_c.proofs.laws.planned_without_fences.Goals as goal

pub returns : goal.returns
returns c = planned_without_fences
