use Rattle.std.proofs.Common.{◌≡◌, ◌++◌, take}
use Rattle.dsa_prepared.specs.Rows.{region_rows_of}
use Rattle.dsa_prepared.proofs.writing.push_regions.Given as goal

abbrev pub invariant-loop-i : goal.invariant-loop-i
invariant-loop-i l = l.rows.items ≡ l.initial.rows.items ++ region_rows_of (take l.i l.regions) (take l.i l.units)
