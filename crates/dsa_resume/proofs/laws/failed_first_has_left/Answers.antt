use Rattle.dsa_resume.specs.Work.{descriptor_work}
use Rattle.dsa_resume.proofs.Descriptors.{is_work}
use Rattle.dsa_resume.proofs.FirstFailed.{failed_first_has_left}
use Rattle.dsa_resume.proofs.laws.failed_first_has_left.Goals as goal

pub returns : goal.returns
returns c = failed_first_has_left descriptor_work is_work
