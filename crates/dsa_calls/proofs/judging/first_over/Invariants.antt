use Rattle.std.proofs.Common.{map}
use Rattle.dsa_calls.specs.Judge.{FitBefore}
use Rattle.dsa_calls.proofs.judging.first_over.Given as goal

-- no piece so far is longer
abbrev pub invariant-loop-index : goal.invariant-loop-index
invariant-loop-index g l = FitBefore l.greatest (map g.P.Piece.size l.pieces) l.index
