use Rattle.dsa_calls.proofs.FencedPlans.{fenced_plan_is_least}
use Rattle.dsa_calls.proofs.laws.fenced_plan_is_least.Goals as goal

pub returns : goal.returns
returns c = fenced_plan_is_least
