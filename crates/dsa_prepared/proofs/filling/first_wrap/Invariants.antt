use Rattle.std.proofs.Common.{map}
use Rattle.dsa_prepared.specs.Rows.{region_in}
use Rattle.dsa_prepared.specs.Filling.{AllBelow, FitsAt}
use Rattle.dsa_prepared.proofs.filling.first_wrap.Given as goal

abbrev pub invariant-loop-i : goal.invariant-loop-i
invariant-loop-i l = AllBelow l.i (FitsAt (map region_in l.regions) l.bases)
