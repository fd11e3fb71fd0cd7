use Rattle.dsa_calls.proofs.Submissions.{planned_is_least_and_shown}
use Rattle.dsa_calls.proofs.laws.planned_is_least_and_shown.Goals as goal

pub returns : goal.returns
returns c = planned_is_least_and_shown
