use Rattle.dsa_calls.proofs.Histories.{runs_follow_plans}
use Rattle.dsa_calls.proofs.laws.runs_follow_plans.Goals as goal

pub returns : goal.returns
returns c = runs_follow_plans
