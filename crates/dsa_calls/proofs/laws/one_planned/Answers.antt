use Rattle.dsa_calls.proofs.Submissions.{one_planned}
use Rattle.dsa_calls.proofs.laws.one_planned.Goals as goal

pub returns : goal.returns
returns c = one_planned
