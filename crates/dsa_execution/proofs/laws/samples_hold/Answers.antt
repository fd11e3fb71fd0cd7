use Rattle.dsa_execution.proofs.SamplesHold as laws
use Rattle.dsa_execution.proofs.laws.samples_hold.Goals as goal

pub returns : goal.returns
returns c = record { checksum = laws.checksum_left; copy = laws.copy_left; chain = laws.is_chain; chain_value = laws.chain_value }
