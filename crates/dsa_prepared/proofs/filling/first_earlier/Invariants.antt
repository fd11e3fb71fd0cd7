use Rattle.std.proofs.Common.{map}
use Rattle.dsa_prepared.specs.Rows.{region_in}
use Rattle.dsa_prepared.specs.Filling.{AllBelow, AreApartAt}
use Rattle.dsa_prepared.proofs.filling.first_earlier.Given as goal

abbrev pub invariant-loop-j : goal.invariant-loop-j
invariant-loop-j l = AllBelow l.j (AreApartAt (map region_in l.regions) l.bases l.region)
