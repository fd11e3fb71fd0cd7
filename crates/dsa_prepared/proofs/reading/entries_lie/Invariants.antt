use Rattle.std.proofs.Common.{◌-◌, map, get_or, length}
use Rattle.dsa_prepared.specs.Filling.{AllBelow}
use Rattle.dsa_prepared.specs.Sound.{AreWithin}
use Rattle.dsa_prepared.specs.Rows.{region_in, entry_in}
use Rattle.dsa_prepared.proofs.RowChecks.{no_row}
use Rattle.dsa_prepared.proofs.reading.entries_lie.Given as goal

abbrev pub invariant-loop-k : goal.invariant-loop-k
invariant-loop-k l = AllBelow l.k (λ k. AreWithin (map region_in l.regions) (entry_in (get_or l.entries k no_row)))

abbrev pub decreases-loop-k : goal.decreases-loop-k
decreases-loop-k l = length l.entries - l.k
