use Rattle.dsa_core.proofs.OperationsFit.{operations_fit}
use Rattle.dsa_core.proofs.operations.OperationWorkable.work_fits.Goals as goal

pub returns : goal.returns
returns c = operations_fit
