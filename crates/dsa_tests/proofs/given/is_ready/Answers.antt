use Rattle.std.proofs.Common.{◌∙◌, length, ap, subst, sym}
use Rattle.dsa_settings.specs.Barriers.{WithBarriers}
use Rattle.dsa_settings.specs.Settings.{Limits}
use Rattle.dsa_settings.specs.Legal.{IsLegal}
use Rattle.dsa_tests.proofs.given.is_ready.Goals as goal

pub returns-clause-legal : goal.returns-clause-legal
unfolding WithBarriers
returns-clause-legal g c = λ t.
    let most = ap (λ (l : Limits). l.greatest_batch) c.in-Ok.ensures.0 in
    subst (λ most_members. IsLegal (g.P.Touching.conflict c.args.pieces.now) most_members (length c.args.pieces.now) c.args.plan.now) most
    (c.is_legal_with.ensures.legal.0 (sym c.is_ok.ensures.value ∙ t))
