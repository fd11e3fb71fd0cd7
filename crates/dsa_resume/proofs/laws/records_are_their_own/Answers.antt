use Rattle.dsa_resume.proofs.Storing.{records_are_their_own}
use Rattle.dsa_resume.proofs.laws.records_are_their_own.Goals as goal

pub returns : goal.returns
returns g c = records_are_their_own g.P.Touching.writes
