use Rattle.std.proofs.Common.{map}
use Rattle.dsa_prepared.specs.Rows.{region_in, unit_in}
use Rattle.dsa_prepared.specs.Filling.{AllBelow, FitsAt, IsAlignedBase, IsApartFromEarlier, LiesBetween}
use Rattle.dsa_prepared.proofs.filling.are_in_place.Given as goal

abbrev pub invariant-loop-i : goal.invariant-loop-i
invariant-loop-i l = record {
  fit : AllBelow l.i (FitsAt (map region_in l.regions) l.bases);
  aligned : AllBelow l.i (IsAlignedBase (map region_in l.regions) (map unit_in l.regions) l.bases);
  apart : AllBelow l.i (IsApartFromEarlier (map region_in l.regions) l.bases);
  between : AllBelow l.i (LiesBetween (map region_in l.regions) l.bases l.bottom l.top);
}
