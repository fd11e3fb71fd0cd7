use Rattle.dsa_execution.proofs.Seeds as laws
use Rattle.dsa_execution.proofs.laws.chains_go_on.Goals as goal

pub returns : goal.returns
returns c = laws.chains_go_on
