use Rattle.std.proofs.Common.{map}
use Rattle.dsa_prepared.specs.Rows.{tie_in}
use Rattle.dsa_prepared.specs.Filling.{AllBelow, IsTiedAt}
use Rattle.dsa_prepared.proofs.filling.first_untied.Given as goal

abbrev pub invariant-loop-i : goal.invariant-loop-i
invariant-loop-i l = AllBelow l.i (IsTiedAt (map tie_in l.ties) l.bases)
