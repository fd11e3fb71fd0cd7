use Rattle.std.proofs.Common.{ℕ, List, ap, ◌∙◌}
use Rattle.std.specs.Prelude.{slice_set}
use Rattle.dsa_settings.specs.Settings.{tariff_of}
use Rattle.dsa_search.proofs.Filling.{offers_none}
use Rattle.dsa_search.proofs.costs.least_costs.Goals as goal

pub fill_costs-requires-clause-offers : goal.fill_costs-requires-clause-offers
fill_costs-requires-clause-offers c =
    offers_none c.args.settings.now.greatest_batch (tariff_of c.args.settings.now) c.args.pairs.now c.deref_mut.result.now
    (c.deref_mut.ensures.value ∙ ap (λ (costs : List ℕ). slice_set costs 0 0) (c.in_ok-costs.ensures.items_if_clones_equal (λ y h. h)))
