use Rattle.dsa_core.specs.DescriptorMachine.{descriptor_machine}
use Rattle.dsa_flight.proofs.Agree.{flights_agree}
use Rattle.dsa_flight.proofs.laws.flights_agree.Goals as goal

pub returns : goal.returns
returns c = flights_agree descriptor_machine
