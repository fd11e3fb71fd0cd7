use Rattle.dsa_calls.proofs.Histories.{replays_follow_plans}
use Rattle.dsa_calls.proofs.laws.replays_follow_plans.Goals as goal

pub returns : goal.returns
returns c = replays_follow_plans
