use Rattle.std.proofs.Common.{get_or}
use Rattle.dsa_prepared.specs.Filling.{AllBelow}
use Rattle.dsa_prepared.specs.Sound.{IsUnit}
use Rattle.dsa_prepared.specs.Rows.{unit_in}
use Rattle.dsa_prepared.proofs.RowChecks.{no_row}
use Rattle.dsa_prepared.proofs.reading.are_units.Given as goal

abbrev pub invariant-loop-i : goal.invariant-loop-i
invariant-loop-i l = AllBelow l.i (λ i. IsUnit (unit_in (get_or l.regions i no_row)))
