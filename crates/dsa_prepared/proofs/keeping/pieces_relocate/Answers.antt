use Rattle.dsa_prepared.proofs.ByRegions.{pieces_relocate}
use Rattle.dsa_prepared.proofs.keeping.pieces_relocate.Goals as goal

pub returns : goal.returns
returns c = pieces_relocate
