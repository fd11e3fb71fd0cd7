use Rattle.dsa_core.specs.DescriptorMachine.{descriptor_machine}
use Rattle.dsa_flight.proofs.Existing.{complete_flights_exist}
use Rattle.dsa_flight.proofs.laws.complete_flights_exist.Goals as goal

pub returns : goal.returns
returns c = complete_flights_exist descriptor_machine
