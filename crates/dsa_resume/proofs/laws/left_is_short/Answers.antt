use Rattle.dsa_resume.proofs.Short.{left_is_short}
use Rattle.dsa_resume.proofs.laws.left_is_short.Goals as goal

pub returns : goal.returns
returns g c = left_is_short _
