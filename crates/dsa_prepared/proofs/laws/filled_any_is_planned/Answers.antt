use Rattle.dsa_prepared.proofs.AnyPlanned.{filled_any_is_planned}
use Rattle.dsa_prepared.proofs.laws.filled_any_is_planned.Goals as goal

pub returns : goal.returns
returns c = filled_any_is_planned
