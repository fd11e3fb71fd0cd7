use Rattle.dsa_calls.proofs.Histories.{one_run}
use Rattle.dsa_calls.proofs.laws.one_run.Goals as goal

pub returns : goal.returns
returns c = one_run
