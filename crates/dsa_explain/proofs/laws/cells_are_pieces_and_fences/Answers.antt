use Rattle.dsa_explain.proofs.Laid.{cells_counted}
use Rattle.dsa_explain.proofs.laws.cells_are_pieces_and_fences.Goals as goal

pub returns : goal.returns
returns c = cells_counted
