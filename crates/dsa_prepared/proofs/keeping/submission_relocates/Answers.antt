use Rattle.dsa_prepared.proofs.Submissions.{submission_relocates}
use Rattle.dsa_prepared.proofs.keeping.submission_relocates.Goals as goal

pub returns : goal.returns
returns c = submission_relocates
