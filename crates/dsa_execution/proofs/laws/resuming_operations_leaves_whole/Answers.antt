use Rattle.dsa_resume.proofs.FirstFailed.{failed_first_has_left}
use Rattle.dsa_operations.specs.declared.operation.Operation.{Operation}
use Rattle.dsa_resume.proofs.Parting.{none_given_up, resumes_in_order}
use Rattle.dsa_resume.proofs.Resting.{rest_leaves_whole}
use Rattle.dsa_execution.specs.Resuming.{operation_work}
use Rattle.dsa_execution.proofs.Resuming.{operations_in_order, operations_work}
use Rattle.dsa_execution.proofs.laws.resuming_operations_leaves_whole.Goals as goal

pub returns-clause-in_order : goal.returns-clause-in_order
returns-clause-in_order c = resumes_in_order operation_work operations_work

pub returns-clause-with_barriers : goal.returns-clause-with_barriers
returns-clause-with_barriers c = rest_leaves_whole operation_work operations_work

pub returns-clause-all : goal.returns-clause-all
returns-clause-all c = none_given_up Operation

pub returns-clause-failed_first : goal.returns-clause-failed_first
returns-clause-failed_first c = failed_first_has_left operation_work operations_work

pub returns-clause-leaves : goal.returns-clause-leaves
returns-clause-leaves c = operations_in_order
