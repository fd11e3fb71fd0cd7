use Rattle.dsa_execution.proofs.Engines.{outcome_is_executed, ready_if_can_execute}
use Rattle.dsa_execution.proofs.laws.engines_execute.Goals as goal

pub returns : goal.returns
returns c = record { ready = ready_if_can_execute; outcome = outcome_is_executed }
