use Rattle.std.proofs.Common.{map}
use Rattle.dsa_prepared.specs.Rows.{region_in}
use Rattle.dsa_prepared.specs.Filling.{AllBelow, IsApartFromEarlier, LiesBetween}
use Rattle.dsa_prepared.proofs.filling.first_meeting_by_pairs.Given as goal

abbrev pub invariant-loop-i : goal.invariant-loop-i
invariant-loop-i l = record {
  apart : AllBelow l.i (IsApartFromEarlier (map region_in l.regions) l.bases);
  between : AllBelow l.i (LiesBetween (map region_in l.regions) l.bases l.bottom l.top);
}
