use Rattle.std.proofs.Common.{arith}
use Rattle.std.proofs.lemmas.Grind.{common_steps, elements}
use Rattle.dsa_plan.proofs.costs.costs_of_groups.Goals as goal

pub costs_of_group-requires-clause-shape : goal.costs_of_group-requires-clause-shape
costs_of_group-requires-clause-shape c = grind (arith, elements)

pub costs_of_group-requires-clause-few : goal.costs_of_group-requires-clause-few
costs_of_group-requires-clause-few c = grind (arith, common_steps)

pub loop-group-preserved : goal.loop-group-preserved
loop-group-preserved c = grind (arith, common_steps)
