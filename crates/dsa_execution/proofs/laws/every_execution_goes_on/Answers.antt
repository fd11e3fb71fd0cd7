use Rattle.dsa_core.proofs.Counts.{runs_are_bounded}
use Rattle.dsa_core.proofs.Moments.{complete_is_last, every_moment_goes_on}
use Rattle.dsa_core.proofs.StopPoint.{nothing_beyond_starts}
use Rattle.dsa_core.specs.Operations.{operation_machine}
use Rattle.dsa_execution.proofs.laws.every_execution_goes_on.Goals as goal

pub returns : goal.returns
returns c =
    record {
      next = every_moment_goes_on operation_machine;
      last = complete_is_last operation_machine;
      beyond = nothing_beyond_starts operation_machine;
      bounded = runs_are_bounded operation_machine;
    }
