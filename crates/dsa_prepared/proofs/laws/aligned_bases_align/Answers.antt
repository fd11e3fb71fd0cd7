use Rattle.dsa_prepared.proofs.Whole.{aligned_bases_align}
use Rattle.dsa_prepared.proofs.laws.aligned_bases_align.Goals as goal

pub returns : goal.returns
returns c = aligned_bases_align
