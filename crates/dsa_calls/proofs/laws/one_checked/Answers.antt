use Rattle.dsa_calls.proofs.BytesChecked.{one_checked}
use Rattle.dsa_calls.proofs.laws.one_checked.Goals as goal

pub returns : goal.returns
returns c = one_checked
