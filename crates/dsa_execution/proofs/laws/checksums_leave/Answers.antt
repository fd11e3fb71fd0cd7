use Rattle.dsa_execution.proofs.Left as laws
use Rattle.dsa_execution.proofs.laws.checksums_leave.Goals as goal

pub returns : goal.returns
returns c =
    record {
      completion = laws.record_is_left;
      value = laws.value_is_left;
      copy = laws.copy_is_left;
      others = laws.others_are_left;
    }
