use Rattle.dsa_calls.proofs.FencedPlans.{one_fenced_plan}
use Rattle.dsa_calls.proofs.laws.one_fenced_plan.Goals as goal

pub returns : goal.returns
returns c = one_fenced_plan
