use Rattle.dsa_checksum.proofs.Going.{goes_on}
use Rattle.dsa_checksum.proofs.laws.checksum_goes_on.Goals as goal

pub returns : goal.returns
returns c = goes_on
