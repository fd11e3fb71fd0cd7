use Rattle.std.proofs.Common.{◌≡◌, ℕ, ◌+◌, ◌-◌, length, refl, subst, arith}
use Rattle.dsa_settings.specs.Settings.{tariff_of}
use Rattle.dsa_plan.specs.Chain.{IsLastBelow, LeadsTo}
use Rattle.dsa_search.specs.Filled.{HasOffers, past_reach}
use Rattle.dsa_search.proofs.Filling.{last_after, offers_after}
use Rattle.dsa_search.proofs.costs.led_by.Goals as goal

pub overflow_sub-result : goal.overflow_sub-result
overflow_sub-result c =
    let leads : LeadsTo c.args.pairs.now c.args.leader.start c.args.start = c.if-not-leads_to.ensures.0 refl in
    (last_after c.args.pairs.now c.requires.forward c.args.leader.start c.args.start (past_reach c.args.settings.now.greatest_batch (length c.args.pairs.now) c.args.leader.start) c.args.leader.chain.1 c.args.leader.chain.0
    leads (omega (arith, c.if-end-start.false, c.min-end.ensures, c.greatest_batch.ensures.value)) c.requires.chain).0

pub returns-clause-offers : goal.returns-clause-offers
returns-clause-offers c =
    let greatest_batch = c.args.settings.now.greatest_batch in
    let tariff = tariff_of c.args.settings.now in
    let pairs = c.args.pairs.now in
    let past : past_reach greatest_batch (length pairs) c.args.leader.start ≡ c.min-end.result + 1 = omega (arith, c.min-end.ensures, c.greatest_batch.ensures.value) in
    subst (λ (z : ℕ). HasOffers greatest_batch tariff pairs c.args.start z c.args.costs.now) past
    (offers_after greatest_batch tariff pairs c.requires.forward c.args.start c.args.costs.now c.args.leader.start c.requires.before c.requires.same (c.if-not-leads_to.ensures.0 refl)
    (omega (arith, c.if-costs-leader.false, c.fence.ensures.value)) c.requires.offers)

pub returns-clause-chain : goal.returns-clause-chain
returns-clause-chain c =
    let greatest_batch = c.args.settings.now.greatest_batch in
    let pairs = c.args.pairs.now in
    let past : past_reach greatest_batch (length pairs) c.args.leader.start ≡ c.min-end.result + 1 = omega (arith, c.min-end.ensures, c.greatest_batch.ensures.value) in
    subst (λ (z : ℕ). IsLastBelow pairs c.args.start z (c.args.leader.chain.1 - 1) c.args.leader.chain.0) past
    (last_after pairs c.requires.forward c.args.leader.start c.args.start (past_reach greatest_batch (length pairs) c.args.leader.start) c.args.leader.chain.1 c.args.leader.chain.0
    (c.if-not-leads_to.ensures.0 refl) (omega (arith, c.if-end-start.false, c.min-end.ensures, c.greatest_batch.ensures.value)) c.requires.chain).1
