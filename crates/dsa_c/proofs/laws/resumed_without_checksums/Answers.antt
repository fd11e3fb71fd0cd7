use Rattle.dsa_c.proofs.WithoutFences.{resumed_without_checksums}
use Rattle.dsa_c.proofs.laws.resumed_without_checksums.Goals as goal

pub returns : goal.returns
returns c = resumed_without_checksums
