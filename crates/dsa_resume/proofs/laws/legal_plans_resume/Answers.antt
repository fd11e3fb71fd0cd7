use Rattle.dsa_resume.proofs.Plans.{plans_resume}
use Rattle.dsa_resume.proofs.laws.legal_plans_resume.Goals as goal

pub returns : goal.returns
returns g c = plans_resume g.P.Touching.reads g.P.Touching.writes g.P.Touching.conflict c.conflict_as_touched.ensures
