use Rattle.dsa_lists.proofs.Listed.{conflict_alike}
use Rattle.dsa_lists.proofs.laws.descriptors_conflict_alike.Goals as goal

pub returns : goal.returns
returns c = conflict_alike
