use Rattle.std.proofs.Common.{◌≡◌, true, false, Some, sym, ◌∙◌, subst}
use Rattle.dsa_tracker.proofs.Owners.{other_at, one_more, all_have}
use Rattle.dsa_tracker.proofs.owner.first_other.Goals as goal

pub returns-then-not-is_of : goal.returns-then-not-is_of
returns-then-not-is_of g c =
    other_at g.P.Tracked.owner c.args.owner c.args.pieces.now c.loop-index.index c.index-pieces-index.result c.loop-index-test.true c.loop-index.invariant
    (λ h. let wrong : false ≡ true = sym c.if-not-is_of.true ∙ c.is_of.ensures.1 (subst (λ d. c.args.owner ≡ Some (g.P.Tracked.owner d)) (sym c.index-pieces-index.is) h) in cc)

pub loop-index-preserved : goal.loop-index-preserved
loop-index-preserved g c =
    one_more g.P.Tracked.owner c.args.owner c.args.pieces.now c.loop-index.index c.index-pieces-index.result c.loop-index-test.true c.loop-index.invariant
    (subst (λ d. c.args.owner ≡ Some (g.P.Tracked.owner d)) c.index-pieces-index.is (c.is_of.ensures.0 c.if-not-is_of.false))

pub returns : goal.returns
returns g c = all_have g.P.Tracked.owner c.args.owner c.args.pieces.now c.loop-index.index c.loop-index-test.false c.loop-index.invariant
