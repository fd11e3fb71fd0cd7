use Rattle.dsa_calls.proofs.Histories.{one_replayed}
use Rattle.dsa_calls.proofs.laws.one_replayed.Goals as goal

pub returns : goal.returns
returns c = one_replayed
