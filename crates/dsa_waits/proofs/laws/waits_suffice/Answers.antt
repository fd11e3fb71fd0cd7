use Rattle.dsa_core.specs.DescriptorMachine.{descriptor_machine}
use Rattle.dsa_flight.specs.Hosted.{hosted_machine}
use Rattle.dsa_waits.proofs.Agreeing.{none_found, waits_suffice}
use Rattle.dsa_waits.proofs.laws.waits_suffice.Goals as goal

pub returns : goal.returns
returns c = record { descriptors = waits_suffice descriptor_machine; hosted = waits_suffice hosted_machine; search = none_found }
