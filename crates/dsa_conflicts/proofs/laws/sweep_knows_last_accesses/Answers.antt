use Rattle.dsa_conflicts.proofs.Lasts.{swept_more, swept_none}
use Rattle.dsa_conflicts.proofs.laws.sweep_knows_last_accesses.Goals as goal

pub returns-clause-begins : goal.returns-clause-begins
returns-clause-begins c pieces = swept_none pieces

pub returns-clause-goes_on : goal.returns-clause-goes_on
returns-clause-goes_on c pieces b d old new at swept reads writes = swept_more pieces b d at old new reads writes swept
