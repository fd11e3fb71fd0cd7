use Rattle.std.proofs.Common.{◌≡◌, [], ◌∷◌, length, refl, sym, subst, ◌∙◌, arith}
use Rattle.dsa_settings.specs.Plan.{Plan}
use Rattle.dsa_settings.specs.Settings.{tariff_of}
use Rattle.dsa_search.specs.Entries.{IsReadPlan}
use Rattle.dsa_search.proofs.Joining.{joined_filled, joined_read}
use Rattle.dsa_search.proofs.one_batch.joined_plan.Goals as goal

pub read_plan-requires-clause-few : goal.read_plan-requires-clause-few
read_plan-requires-clause-few c = omega (arith, c.requires.cheap.fits, c.lone.ensures.limits.most_batch)

pub read_plan-requires-clause-filled : goal.read_plan-requires-clause-filled
read_plan-requires-clause-filled c =
    joined_filled c.args.settings.now.greatest_batch (tariff_of c.args.settings.now) c.args.pairs.now c.requires.forward c.requires.nested c.requires.cheap c.args.costs.now c.requires.costs c.lone.ensures.limits.most_lone

pub returns : goal.returns
returns c =
    let plan : c.new.result ≡ c.in_ok-group.group ∷ [] = c.new.ensures ∙ c.in_ok-groups.ensures.items in
    subst (λ (p : Plan). IsReadPlan c.args.settings.now.greatest_batch (tariff_of c.args.settings.now) (length c.args.pairs.now) c.args.pairs.now c.args.costs.now p) (sym plan)
    (joined_read c.args.settings.now.greatest_batch (tariff_of c.args.settings.now) c.args.pairs.now c.requires.forward c.requires.nested c.requires.cheap c.args.costs.now c.requires.costs
    (c.if-not-is_best_joined.ensures refl) c.in_ok-group.group c.in_ok-group.ensures.0 c.in_ok-group.ensures.1)
