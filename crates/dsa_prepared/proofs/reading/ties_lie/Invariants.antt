use Rattle.std.proofs.Common.{map, get_or}
use Rattle.dsa_prepared.specs.Filling.{AllBelow}
use Rattle.dsa_prepared.specs.Sound.{IsTieWithin}
use Rattle.dsa_prepared.specs.Rows.{region_in, tie_in}
use Rattle.dsa_prepared.proofs.RowChecks.{no_row}
use Rattle.dsa_prepared.proofs.reading.ties_lie.Given as goal

abbrev pub invariant-loop-k : goal.invariant-loop-k
invariant-loop-k l = AllBelow l.k (λ k. IsTieWithin (map region_in l.regions) (tie_in (get_or l.ties k no_row)))
