use Rattle.std.proofs.Common.{arith}
use Rattle.dsa_plan.proofs.Fences.{fewer_fences}
use Rattle.dsa_plan.proofs.costs.costs_of_group.Goals as goal

pub group_price-requires-clause-less : goal.group_price-requires-clause-less
group_price-requires-clause-less c =
    omega (arith, c.fence_count-fences.ensures, c.len-size.ensures, fewer_fences c.args.group.now c.requires.shape.begins)
