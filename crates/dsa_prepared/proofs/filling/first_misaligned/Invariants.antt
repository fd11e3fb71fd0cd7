use Rattle.std.proofs.Common.{map}
use Rattle.dsa_prepared.specs.Rows.{region_in, unit_in}
use Rattle.dsa_prepared.specs.Filling.{AllBelow, IsAlignedBase}
use Rattle.dsa_prepared.proofs.filling.first_misaligned.Given as goal

abbrev pub invariant-loop-i : goal.invariant-loop-i
invariant-loop-i l = AllBelow l.i (IsAlignedBase (map region_in l.regions) (map unit_in l.regions) l.bases)
