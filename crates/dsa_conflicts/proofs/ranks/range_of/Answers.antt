use Rattle.std.proofs.Common.{arith}
use Rattle.std.proofs.lemmas.Grind.{elements}
use Rattle.dsa_conflicts.proofs.ranks.range_of.Goals as goal

pub returns : goal.returns
returns c = grind (arith, elements)
