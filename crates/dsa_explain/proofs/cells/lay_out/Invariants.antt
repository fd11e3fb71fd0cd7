use Rattle.std.proofs.Common.{◌≡◌, ◌++◌, drop}
use Rattle.dsa_explain.specs.Cells.{cells_from}
use Rattle.dsa_explain.proofs.cells.lay_out.Given as goal

abbrev pub invariant-loop-row : goal.invariant-loop-row
invariant-loop-row l = l.cells.items ++ cells_from l.row (drop l.row l.plan) ≡ cells_from 0 l.plan
