use Rattle.dsa_ranges.proofs.Pieces.{are_pieces}
use Rattle.dsa_ranges.proofs.piece.DescriptorTouching.conflict_as_touched.Goals as goal

pub returns : goal.returns
returns c = are_pieces
