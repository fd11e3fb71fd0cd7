use Rattle.dsa_calls.proofs.FencedChecked.{fenced_plan_is_checked}
use Rattle.dsa_calls.proofs.laws.fenced_plan_is_checked.Goals as goal

pub returns : goal.returns
returns c = fenced_plan_is_checked
