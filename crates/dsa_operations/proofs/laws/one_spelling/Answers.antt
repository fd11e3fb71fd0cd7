use Rattle.dsa_operations.proofs.Same.{one_spelling}
use Rattle.dsa_operations.proofs.laws.one_spelling.Goals as goal

pub returns : goal.returns
returns c = one_spelling
