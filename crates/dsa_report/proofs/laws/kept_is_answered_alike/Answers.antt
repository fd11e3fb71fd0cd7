use Rattle.dsa_report.proofs.KeptCalls.{kept_is_answered_alike}
use Rattle.dsa_report.proofs.laws.kept_is_answered_alike.Goals as goal

pub returns : goal.returns
returns c = kept_is_answered_alike
