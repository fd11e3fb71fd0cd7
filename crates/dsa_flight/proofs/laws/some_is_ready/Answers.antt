use Rattle.dsa_flight.proofs.Ready.{some_is_ready}
use Rattle.dsa_flight.proofs.laws.some_is_ready.Goals as goal

pub returns : goal.returns
returns c = some_is_ready
