use Rattle.dsa_flight.proofs.Groups.{groups_end_in_turn}
use Rattle.dsa_flight.proofs.laws.groups_end_in_turn.Goals as goal

pub returns : goal.returns
returns c = groups_end_in_turn
