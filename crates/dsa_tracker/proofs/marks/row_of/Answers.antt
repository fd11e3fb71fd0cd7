use Rattle.std.proofs.Common.{arith}
use Rattle.dsa_tracker.proofs.Numbers.{row_below}
use Rattle.dsa_tracker.proofs.marks.row_of.Goals as goal

pub returns-clause-within : goal.returns-clause-within
returns-clause-within c = row_below _ c.args.grid.log2_rows (omega (arith, c.args.grid.in_range.1)) (omega arith)
