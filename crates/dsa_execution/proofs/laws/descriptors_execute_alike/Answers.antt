use Rattle.dsa_execution.proofs.Alike as laws
use Rattle.dsa_execution.proofs.laws.descriptors_execute_alike.Goals as goal

pub returns : goal.returns
returns c = record { memory = laws.same_memory; statuses = laws.same_statuses; premises = laws.same_premises; runs = laws.same_runs }
