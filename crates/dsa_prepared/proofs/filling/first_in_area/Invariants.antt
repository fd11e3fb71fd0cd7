use Rattle.std.proofs.Common.{map}
use Rattle.dsa_prepared.specs.Rows.{region_in}
use Rattle.dsa_prepared.specs.Filling.{AllBelow, IsClearAt}
use Rattle.dsa_prepared.proofs.filling.first_in_area.Given as goal

abbrev pub invariant-loop-i : goal.invariant-loop-i
invariant-loop-i l = AllBelow l.i (IsClearAt (map region_in l.regions) l.bases l.area)
