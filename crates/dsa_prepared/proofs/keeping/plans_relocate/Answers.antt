use Rattle.dsa_prepared.proofs.Listed.{plans_relocate}
use Rattle.dsa_prepared.proofs.keeping.plans_relocate.Goals as goal

pub returns : goal.returns
returns c = plans_relocate
