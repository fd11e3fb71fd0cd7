use Rattle.dsa_explain.proofs.CostSums.{costs_add_up}
use Rattle.dsa_explain.proofs.laws.group_costs_add_up.Goals as goal

pub returns : goal.returns
returns c = costs_add_up
