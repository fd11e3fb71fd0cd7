use Rattle.std.proofs.Common.{arith}
use Rattle.dsa_prepared.proofs.GroupEntries.{batched_few}
use Rattle.dsa_prepared.proofs.groups.batched_total.Goals as goal

pub overflow_add-total : goal.overflow_add-total
overflow_add-total c =
    let few = batched_few c.args.groups.now c.loop-group.group-index c.group-item.result c.loop-group-test.true c.group-item.is c.requires in
    omega (arith, few, c.loop-group.invariant, c.batched_of-total.ensures)
