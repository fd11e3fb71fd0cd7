use Rattle.std.proofs.Common.{◌≡◌, ◌+◌, arith}
use Rattle.dsa_plan.proofs.Chains.{IsLastBelow-start}
use Rattle.dsa_search.proofs.costs.first_offer.Goals as goal

pub returns-clause-within : goal.returns-clause-within
returns-clause-within c = omega (arith, c.requires.some, c.requires.inside)

pub returns-clause-chain : goal.returns-clause-chain
returns-clause-chain c =
    let two : c.args.start + 1 + 1 ≡ c.args.start + 2 = omega arith in
    rw two at (c.chain_step.ensures.chain c.args.start c.requires.forward (IsLastBelow-start c.args.pairs.now c.requires.forward c.args.start))
