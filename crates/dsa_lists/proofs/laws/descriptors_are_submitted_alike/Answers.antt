use Rattle.dsa_lists.proofs.SubmittedAlike.{submitted_alike, submitted_back}
use Rattle.dsa_lists.proofs.laws.descriptors_are_submitted_alike.Goals as goal

pub returns-clause-there : goal.returns-clause-there
returns-clause-there c = submitted_alike

pub returns-clause-back : goal.returns-clause-back
returns-clause-back c = submitted_back
