use Rattle.dsa_resume.proofs.Places.{left_is_reached}
use Rattle.dsa_resume.proofs.laws.left_is_reached.Goals as goal

pub returns : goal.returns
returns g c = left_is_reached _
