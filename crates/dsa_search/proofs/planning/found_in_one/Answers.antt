use Rattle.std.proofs.Common.{◌≡◌, length, refl, rules}
use Rattle.dsa_settings.specs.Settings.{tariff_of}
use Rattle.dsa_search.specs.OneBatch.{AreBatchCosts}
use Rattle.dsa_search.proofs.Batching.{no_pairs, found_one_batch}
use Rattle.dsa_search.proofs.planning.found_in_one.Goals as goal

pub returns : goal.returns
returns c =
    let tariff = tariff_of c.args.settings.now in
    let count = length c.args.lasts.now in
    let pairs : c.in_ok-pairs.pairs.items ≡ no_pairs count = search rules in
    let costs : AreBatchCosts tariff.lone (tariff.batch count) count c.in_ok-prices.prices.items = rw (c.lone.ensures.value, c.price.ensures.value) at c.in_ok-prices.ensures in
    found_one_batch c.args.settings.now.greatest_batch tariff count c.requires.best c.in_ok-pairs.pairs.items pairs c.args.lasts.now c.requires.none refl c.lone.ensures.limits.most_lone
    c.in_ok-prices.prices.items costs c.in_ok-plan.plan c.in_ok-plan.ensures
