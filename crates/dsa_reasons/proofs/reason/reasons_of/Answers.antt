use Rattle.std.proofs.Common.{◌≡◌, ℕ, subst, arith}
use Rattle.dsa_reasons.specs.Reasons.{HasReasonsSoFar}
use Rattle.dsa_reasons.proofs.Listed.{all_found, none_so_far}
use Rattle.dsa_reasons.proofs.reason.reasons_of.Goals as goal

pub loop-later-init : goal.loop-later-init
loop-later-init g c = rw c.new-reasons.ensures.items (none_so_far g.P.Touching.reads g.P.Touching.writes c.args.pieces.now c.args.start c.args.fences.now c.args.at)

pub returns : goal.returns
returns g c =
    let end : c.loop-later.later ≡ c.next_fence-end.result = omega (arith, c.loop-later-test.false) in
    all_found g.P.Touching.reads g.P.Touching.writes c.args.pieces.now c.args.start c.args.fences.now c.args.at c.next_fence-end.result c.loop-later.reasons.items
    c.next_fence-end.ensures.after c.next_fence-end.ensures.within c.next_fence-end.ensures.open c.next_fence-end.ensures.closed
    (subst (λ (z : ℕ). HasReasonsSoFar g.P.Touching.reads g.P.Touching.writes c.args.pieces.now c.args.start c.args.fences.now c.args.at z c.args.at c.loop-later.reasons.items) end c.loop-later.invariant)
