use Rattle.std.proofs.Common.{◌≡◌, ℕ, ◌+◌, length, subst, arith}
use Rattle.dsa_plan.specs.Chain.{IsLastBelow}
use Rattle.dsa_plan.proofs.Together.{Reaches-far}
use Rattle.dsa_settings.specs.Settings.{sized_tariff}
use Rattle.dsa_search.specs.Filled.{HasOffers, past_reach}
use Rattle.dsa_search.proofs.Sizing.{offers_on_sheet, offers_off_sheet}
use Rattle.dsa_search.proofs.costs.offer_rows.Goals as goal

pub offer_ends-reached-requires-clause-offers : goal.offer_ends-reached-requires-clause-offers
offer_ends-reached-requires-clause-offers c =
    offers_on_sheet c.args.settings.now c.args.sheet.now.pairs.now c.args.sheet.now.pairs.now c.args.sheet.now.rows.now c.args.sheet.now.lasts.now c.args.sheet.now.lone c.args.sheet.now.fence c.args.sheet.now.table.now
    c.requires.sheet c.args.start c.args.end c.args.costs.now c.requires.offers

pub last_within-requires-clause-few : goal.last_within-requires-clause-few
last_within-requires-clause-few c =
    omega (arith, Reaches-far c.args.sheet.now.pairs.now c.requires.sheet.sheet.forward c.args.start c.offer_ends-reached.result.1 c.offer_ends-reached.result.0 c.offer_ends-reached.ensures.reached)

pub returns-clause-offers : goal.returns-clause-offers
returns-clause-offers c =
    let g = c.args.sheet.now in
    let pairs = g.pairs.now in
    let past : past_reach (length g.table.now + 1) (length pairs) c.args.start ≡ past_reach c.args.settings.now.greatest_batch (length pairs) c.args.start = omega (arith, c.requires.sheet.table_size) in
    offers_off_sheet c.args.settings.now pairs pairs c.args.sheet.now.rows.now c.args.sheet.now.lasts.now c.args.sheet.now.lone c.args.sheet.now.fence c.args.sheet.now.table.now
    c.requires.sheet c.args.start (past_reach c.args.settings.now.greatest_batch (length pairs) c.args.start) c.offer_ends-reached.new.costs
    (subst (λ (z : ℕ). HasOffers (length g.table.now + 1) (sized_tariff g.lone g.fence g.table.now) pairs c.args.start z c.offer_ends-reached.new.costs) past c.offer_ends-reached.ensures.offers)

pub returns-clause-chain : goal.returns-clause-chain
returns-clause-chain c =
    let pairs = c.args.sheet.now.pairs.now in
    let past : c.min-reach.result + 1 ≡ past_reach c.args.settings.now.greatest_batch (length pairs) c.args.start = omega (arith, c.min-reach.ensures, c.greatest_batch.ensures.value) in
    subst (λ (z : ℕ). IsLastBelow pairs c.args.start z c.last_within.result.1 c.last_within.result.0) past
    (c.last_within.ensures c.args.start c.offer_ends-reached.ensures.reached)
