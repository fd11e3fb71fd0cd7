use Rattle.dsa_flight.proofs.Planned.{planned_end_in_turn}
use Rattle.dsa_flight.proofs.laws.planned_end_in_turn.Goals as goal

pub returns : goal.returns
returns c = planned_end_in_turn
