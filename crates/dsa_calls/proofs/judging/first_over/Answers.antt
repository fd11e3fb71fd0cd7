use Rattle.std.proofs.Common.{arith}
use Rattle.dsa_calls.proofs.Sizes.{over_here, fits_here, all_fit}
use Rattle.dsa_calls.proofs.judging.first_over.Goals as goal

pub returns-then-from-greatest : goal.returns-then-from-greatest
returns-then-from-greatest g c =
    over_here _ g.P.Piece.size c.args.greatest c.args.pieces.now c.loop-index.index c.index-pieces-index.result c.loop-index-test.true c.index-pieces-index.is c.loop-index.invariant
    (omega (arith, c.transfer_size.ensures, c.from.ensures, c.if-from-greatest.true))

pub loop-index-preserved : goal.loop-index-preserved
loop-index-preserved g c =
    fits_here _ g.P.Piece.size c.args.greatest c.args.pieces.now c.loop-index.index c.index-pieces-index.result c.loop-index-test.true c.index-pieces-index.is c.loop-index.invariant
    (omega (arith, c.transfer_size.ensures, c.from.ensures, c.if-from-greatest.false))

pub returns : goal.returns
returns g c = all_fit _ g.P.Piece.size c.args.greatest c.args.pieces.now c.loop-index.index c.loop-index-test.false c.loop-index.invariant
