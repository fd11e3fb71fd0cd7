use Rattle.dsa_calls.proofs.FencedChecked.{one_fenced_check}
use Rattle.dsa_calls.proofs.laws.one_fenced_check.Goals as goal

pub returns : goal.returns
returns c = one_fenced_check
