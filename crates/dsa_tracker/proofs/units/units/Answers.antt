use Rattle.std.proofs.Common.{arith}
use Rattle.dsa_tracker.proofs.Numbers.{units_fit}
use Rattle.dsa_tracker.proofs.units.units.Goals as goal

pub overflow_add-until : goal.overflow_add-until
overflow_add-until c =
    let low = units_fit c.args.last c.args.grid.log2_unit c.args.grid.in_range.2 (omega arith) in
    omega (arith, low)
