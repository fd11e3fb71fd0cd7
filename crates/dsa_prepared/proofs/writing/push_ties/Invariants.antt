use Rattle.std.proofs.Common.{◌≡◌, ◌++◌, take, map}
use Rattle.dsa_prepared.specs.Rows.{tie_row}
use Rattle.dsa_prepared.proofs.writing.push_ties.Given as goal

abbrev pub invariant-loop-tie : goal.invariant-loop-tie
invariant-loop-tie l = l.rows.items ≡ l.initial.rows.items ++ map tie_row (take l.tie-index l.ties)
