use Rattle.dsa_prepared.proofs.Planned.{filled_is_planned}
use Rattle.dsa_prepared.proofs.laws.filled_is_planned.Goals as goal

pub returns : goal.returns
returns c = filled_is_planned
