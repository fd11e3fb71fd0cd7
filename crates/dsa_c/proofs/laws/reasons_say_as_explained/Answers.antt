use Rattle.dsa_c.proofs.Saying.{descriptors_say_alike, reasons_say_as_explained}
use Rattle.dsa_c.proofs.laws.reasons_say_as_explained.Goals as goal

pub returns-clause-operations : goal.returns-clause-operations
returns-clause-operations c = reasons_say_as_explained

pub returns-clause-descriptors : goal.returns-clause-descriptors
returns-clause-descriptors c = descriptors_say_alike
