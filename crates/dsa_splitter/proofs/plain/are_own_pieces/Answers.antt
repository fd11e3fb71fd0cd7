use Rattle.std.proofs.Common.{arith}
use Rattle.dsa_splitter.proofs.AsTheyStand.{whole_split}
use Rattle.dsa_splitter.proofs.plain.are_own_pieces.Goals as goal

pub returns-clause-split : goal.returns-clause-split
returns-clause-split c = λ yes'.
    whole_split c.args.list.now c.args.greatest c.args.staging (c.are_plain.ensures.whole yes') (omega (arith, c.if-list-gt-MOST_PIECES.false)) (c.are_plain.ensures.clear yes')
