use Rattle.dsa_conflicts.proofs.Lasts.{lasts_are_swept}
use Rattle.dsa_conflicts.proofs.laws.sweep_finds_last_conflicts.Goals as goal

pub returns : goal.returns
returns c = lasts_are_swept
