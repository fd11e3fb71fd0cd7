use Rattle.dsa_execution.proofs.Runs as laws
use Rattle.dsa_execution.proofs.laws.every_execution_is_in_order.Goals as goal

pub returns : goal.returns
returns c =
    record {
      stops = laws.every_execution_is_in_order;
      succeeds = laws.success_is_whole;
      agree = laws.executions_agree;
      exist = laws.executions_exist;
    }
