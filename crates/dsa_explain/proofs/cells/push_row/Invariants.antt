use Rattle.std.proofs.Common.{◌≡◌, ◌++◌, drop}
use Rattle.dsa_explain.specs.Cells.{row_cells}
use Rattle.dsa_explain.proofs.cells.push_row.Given as goal

abbrev pub invariant-loop-column : goal.invariant-loop-column
invariant-loop-column l = l.cells.items ++ row_cells l.row l.column (drop l.column l.group) ≡ l.fn.cells.items ++ row_cells l.row 0 l.group
