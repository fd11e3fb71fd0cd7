use Rattle.dsa_resume.proofs.Listed.{rest_can_be_listed}
use Rattle.dsa_resume.proofs.laws.rest_can_be_listed.Goals as goal

pub returns : goal.returns
returns c = rest_can_be_listed
