use Rattle.dsa_prepared.proofs.PiecesLie.{pieces_lie}
use Rattle.dsa_prepared.proofs.keeping.pieces_lie.Goals as goal

pub returns : goal.returns
returns c = pieces_lie
