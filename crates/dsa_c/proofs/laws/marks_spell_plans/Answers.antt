use Rattle.dsa_c.proofs.Agreeing.{marks_spell_plans}
use Rattle.dsa_c.proofs.laws.marks_spell_plans.Goals as goal

pub returns : goal.returns
returns c = marks_spell_plans
