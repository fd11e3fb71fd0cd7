use Rattle.std.proofs.Common.{◌≡◌, ℕ, suc, ◌+◌}
use Rattle.dsa_prepared.specs.Filling.{AllBelow}
use Rattle.dsa_prepared.specs.Preparing.{IsRegionAt, region_at}
use Rattle.dsa_prepared.proofs.places.region_fault.Given as goal

abbrev pub invariant-loop-i : goal.invariant-loop-i
invariant-loop-i l = record {
  before : AllBelow l.i (IsRegionAt l.regions);
  first : l.i ≡ 0 → l.end ≡ 0;
  last : (j : ℕ) → suc j ≡ l.i → l.end ≡ (region_at l.regions j).first + (region_at l.regions j).len;
}
