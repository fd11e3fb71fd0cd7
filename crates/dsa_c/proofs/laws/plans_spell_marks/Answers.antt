use Rattle.dsa_c.proofs.Agreeing.{plans_spell_marks}
use Rattle.dsa_c.proofs.laws.plans_spell_marks.Goals as goal

pub returns : goal.returns
returns c = plans_spell_marks
