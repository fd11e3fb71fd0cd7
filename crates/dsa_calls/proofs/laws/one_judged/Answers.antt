use Rattle.dsa_calls.proofs.JudgedOnce.{one_judged}
use Rattle.dsa_calls.proofs.laws.one_judged.Goals as goal

pub returns : goal.returns
returns c = one_judged
