use Rattle.dsa_resume.proofs.Plans.{barriers_hold}
use Rattle.dsa_resume.proofs.laws.barriers_hold.Goals as goal

pub returns : goal.returns
returns g c = barriers_hold g.P.Touching.reads g.P.Touching.writes g.P.Touching.conflict c.conflict_as_touched.ensures
