use Rattle.dsa_core.specs.DescriptorMachine.{descriptor_machine}
use Rattle.dsa_flight.proofs.InTurn.{ended_has_no_step}
use Rattle.dsa_flight.proofs.laws.ended_is_last.Goals as goal

pub returns : goal.returns
returns c = ended_has_no_step descriptor_machine
