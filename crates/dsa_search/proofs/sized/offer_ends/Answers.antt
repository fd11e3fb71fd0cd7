use Rattle.std.proofs.Common.{◌≡◌, ℕ, ◌+◌, length, subst, arith}
use Rattle.dsa_search.specs.Filled.{HasOffers, past_reach}
use Rattle.dsa_settings.specs.Settings.{sized_tariff}
use Rattle.dsa_search.proofs.sized.offer_ends.Goals as goal

pub loop-end-init : goal.loop-end-init
loop-end-init c =
    record {
      offers = c.requires.offers;
      chain = λ within. c.requires.chain;
      reached = c.requires.chain.reached;
      below = c.requires.chain.below;
      late = c.requires.late;
      within = omega (arith, c.min-reach.ensures, c.requires.within);
    }

pub returns-clause-offers : goal.returns-clause-offers
returns-clause-offers c =
    let greatest_batch = length c.args.sheet.now.table.now + 1 in
    let tariff = sized_tariff c.args.sheet.now.lone c.args.sheet.now.fence c.args.sheet.now.table.now in
    let past : c.loop-end.end ≡ past_reach greatest_batch (length c.args.sheet.now.pairs.now) c.args.start = omega (arith, c.loop-end-test.false, c.loop-end.invariant.within, c.min-reach.ensures) in
    subst (λ (z : ℕ). HasOffers greatest_batch tariff c.args.sheet.now.pairs.now c.args.start z c.loop-end.costs) past c.loop-end.invariant.offers
