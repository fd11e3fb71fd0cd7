use Rattle.std.proofs.Common.{◌+◌, ◌<◌, ◌≤◌, ℕ, map, slice_index}
use Rattle.dsa_prepared.specs.Filling.{AreRising, new_region}
use Rattle.dsa_prepared.specs.Rows.{region_in}
use Rattle.dsa_prepared.proofs.sorted.are_rising.Given as goal

abbrev pub invariant-loop-place : goal.invariant-loop-place
invariant-loop-place l = record {
  rising : AreRising (map region_in l.regions) l.bases l.order l.place;
  below :
      (p : ℕ) → p < l.place →
      (new_region (map region_in l.regions) l.bases (slice_index l.order p)).first + (new_region (map region_in l.regions) l.bases (slice_index l.order p)).len ≤ l.top;
}
