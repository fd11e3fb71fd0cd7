use Rattle.dsa_prepared.proofs.Whole.{filled_is_emission}
use Rattle.dsa_prepared.proofs.laws.filled_is_emission.Goals as goal

pub returns : goal.returns
returns c = filled_is_emission
