use Rattle.std.proofs.Common.{◌<◌, ◌≤◌, ℕ, map}
use Rattle.dsa_prepared.specs.Sound.{AreWithin}
use Rattle.dsa_prepared.specs.Rows.{region_in, entry_in, row_at}
use Rattle.dsa_prepared.proofs.reading.first_unbounded.Given as goal

abbrev pub invariant-loop-k : goal.invariant-loop-k
invariant-loop-k l = record {
  from : l.start ≤ l.k;
  lie : (j : ℕ) → l.start ≤ j → j < l.k → AreWithin (map region_in l.regions) (entry_in (row_at l.entries j));
}
