use Rattle.dsa_c.proofs.WithoutFences.{judged_without_fences}
use Rattle.dsa_c.proofs.laws.judged_without_fences.Goals as goal

pub returns : goal.returns
returns c = judged_without_fences
