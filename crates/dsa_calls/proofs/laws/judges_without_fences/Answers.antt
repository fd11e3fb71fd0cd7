use Rattle.dsa_calls.proofs.Unfenced.{no_fences_judge_alike}
use Rattle.dsa_calls.proofs.laws.judges_without_fences.Goals as goal

pub returns : goal.returns
returns c = no_fences_judge_alike
