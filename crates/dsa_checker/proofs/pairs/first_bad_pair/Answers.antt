use Rattle.std.proofs.Common.{ℕ, length, below_more, arith}
use Rattle.dsa_settings.specs.Barriers.{WithBarriers}
use Rattle.dsa_checker.specs.Steps.{PairHolds}
use Rattle.dsa_checker.proofs.pairs.first_bad_pair.Goals as goal

pub loop-i-preserved : goal.loop-i-preserved
loop-i-preserved g c =
    let C = WithBarriers (g.P.Touching.conflict c.args.pieces.now) c.args.barriers.now in
    below_more (λ (k : ℕ). PairHolds C (length c.args.pieces.now) c.args.pairs.now k) c.loop-i.i c.loop-i.invariant
    (c.pair_holds.ensures.0 c.if-not-pair_holds.false)

pub returns : goal.returns
returns g c = λ i lt. c.loop-i.invariant i (omega (arith, lt, c.loop-i-test.false, c.requires))
