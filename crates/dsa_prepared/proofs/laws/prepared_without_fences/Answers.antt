use Rattle.dsa_prepared.proofs.Planned.{prepared_without_fences}
use Rattle.dsa_prepared.proofs.laws.prepared_without_fences.Goals as goal

pub returns : goal.returns
returns c = prepared_without_fences
