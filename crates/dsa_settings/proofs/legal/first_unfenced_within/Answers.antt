use Rattle.std.proofs.Common.{ℕ, subst, below_more, arith}
use Rattle.dsa_settings.specs.Plan.{Group}
use Rattle.dsa_settings.specs.LegalFaults.{HasNoUnfenced, IsLastUnfenced}
use Rattle.dsa_settings.proofs.Judged.{first_within, all_within}
use Rattle.dsa_settings.proofs.legal.first_unfenced_within.Goals as goal

pub returns-in-Some : goal.returns-in-Some
returns-in-Some g c =
    let C = g.P.Touching.conflict c.args.pieces.now in
    first_within C c.args.start c.args.group.now c.in-Some.i c.loop-at.at
    (subst (λ (z : Group). IsLastUnfenced C c.args.start z c.in-Some.i c.loop-at.at) c.fences.ensures c.in-Some.ensures)
    c.loop-at.invariant

pub loop-at-preserved : goal.loop-at-preserved
loop-at-preserved g c =
    let C = g.P.Touching.conflict c.args.pieces.now in
    below_more (λ (j : ℕ). HasNoUnfenced C c.args.start c.args.group.now j) c.loop-at.at c.loop-at.invariant
    (subst (λ (z : Group). HasNoUnfenced C c.args.start z c.loop-at.at) c.fences.ensures c.in_default.ensures)

pub returns : goal.returns
returns g c =
    all_within (g.P.Touching.conflict c.args.pieces.now) c.args.start c.args.group.now c.loop-at.at (omega arith)
    c.loop-at.invariant
