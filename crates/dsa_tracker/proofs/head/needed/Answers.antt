use Rattle.std.proofs.Common.{◌+◌, ◌*◌, ◌^◌, ◌≤◌, arith}
use Rattle.std.proofs.Math.Nat.{mul-le-mul_right}
use Rattle.std.proofs.Math.Pow.{pow_mono}
use Rattle.dsa_tracker.proofs.head.needed.Goals as goal

pub overflow_add-result-4 : goal.overflow_add-result-4
overflow_add-result-4 c =
    let rows : 2 ^ c.args.log2_rows ≤ 2 ^ 32 = pow_mono c.requires.3 in
    let stores : 2 * c.args.slots * (2 * c.args.room + 1) ≤ 128 * (2 * c.args.room + 1) = mul-le-mul_right (2 * c.args.room + 1) (let few = c.requires.0 in omega (arith, few)) in
    omega (arith, rows, stores, c.requires.1)
