use Rattle.std.proofs.Common.{arith}
use Rattle.dsa_plan.specs.Chain.{LeadsTo}
use Rattle.dsa_plan.proofs.Chains.{LeadsTo-same, LeadsTo-read, LeadsTo-read_none}
use Rattle.dsa_checker.proofs.Blocks.{row_none, past_none, row_led, past_led}
use Rattle.dsa_checker.proofs.block.follow.Goals as goal

pub overflow_sub-place : goal.overflow_sub-place
overflow_sub-place c =
    let leads : LeadsTo c.args.pairs.now c.args.chain.0 c.in-Some.second = LeadsTo-read c.args.pairs.now c.args.chain.0 c.in-Some.field-0-0 c.in-Some.second c.requires.inside c.in-Some.is in
    c.requires.late c.in-Some.second leads

pub returns-in-Some-clause-row : goal.returns-in-Some-clause-row
returns-in-Some-clause-row c = λ prices fence start from filled chain.
    let leads : LeadsTo c.args.pairs.now c.args.chain.0 c.in-Some.second = LeadsTo-read c.args.pairs.now c.args.chain.0 c.in-Some.field-0-0 c.in-Some.second c.requires.inside c.in-Some.is in
    row_led c.args.pairs.now prices fence c.args.first c.args.past c.args.block.now.rows c.args.block.now.lasts c.args.block.now.counts filled start from c.args.chain.1 c.args.chain.0 chain
    c.in-Some.second leads (c.requires.late c.in-Some.second leads) c.if-second-past.true

pub returns-in-Some-clause-chain : goal.returns-in-Some-clause-chain
returns-in-Some-clause-chain c = λ prices fence start from filled on chain.
    let leads : LeadsTo c.args.pairs.now c.args.chain.0 c.in-Some.second = LeadsTo-read c.args.pairs.now c.args.chain.0 c.in-Some.field-0-0 c.in-Some.second c.requires.inside c.in-Some.is in
    rw c.from-more.ensures (past_led c.args.pairs.now prices fence c.args.first c.args.past c.args.block.now.rows c.args.block.now.lasts c.args.block.now.counts filled start from c.args.chain.1 c.args.chain.0 chain
    c.in-Some.second leads (c.requires.late c.in-Some.second leads) c.if-second-past.true)

pub returns-in_default-clause-row : goal.returns-in_default-clause-row
returns-in_default-clause-row c = λ prices fence start from filled chain.
    let leads : LeadsTo c.args.pairs.now c.args.chain.0 c.in-Some.second = LeadsTo-read c.args.pairs.now c.args.chain.0 c.in-Some.field-0-0 c.in-Some.second c.requires.inside c.in-Some.is in
    row_none c.args.pairs.now prices fence c.args.first c.args.past c.args.block.now.rows c.args.block.now.lasts c.args.block.now.counts filled start from c.args.chain.1 c.args.chain.0 chain
    (λ b l. omega (arith, LeadsTo-same c.args.pairs.now c.args.chain.0 c.in-Some.second b leads l, c.if-second-past.false))

pub returns-in_default-clause-chain : goal.returns-in_default-clause-chain
returns-in_default-clause-chain c = λ prices fence start from filled on chain.
    let leads : LeadsTo c.args.pairs.now c.args.chain.0 c.in-Some.second = LeadsTo-read c.args.pairs.now c.args.chain.0 c.in-Some.field-0-0 c.in-Some.second c.requires.inside c.in-Some.is in
    past_none c.args.pairs.now prices fence c.args.first c.args.past c.args.block.now.rows c.args.block.now.lasts c.args.block.now.counts filled start from c.args.chain.1 c.args.chain.0 chain
    (λ b l. omega (arith, LeadsTo-same c.args.pairs.now c.args.chain.0 c.in-Some.second b leads l, c.if-second-past.false)) on

pub returns-in_default-2-clause-row : goal.returns-in_default-2-clause-row
returns-in_default-2-clause-row c = λ prices fence start from filled chain.
    row_none c.args.pairs.now prices fence c.args.first c.args.past c.args.block.now.rows c.args.block.now.lasts c.args.block.now.counts filled start from c.args.chain.1 c.args.chain.0 chain
    (λ b l. absurd (LeadsTo-read_none c.args.pairs.now c.args.chain.0 c.requires.inside c.in_default.is b l))

pub returns-in_default-2-clause-chain : goal.returns-in_default-2-clause-chain
returns-in_default-2-clause-chain c = λ prices fence start from filled on chain.
    past_none c.args.pairs.now prices fence c.args.first c.args.past c.args.block.now.rows c.args.block.now.lasts c.args.block.now.counts filled start from c.args.chain.1 c.args.chain.0 chain
    (λ b l. absurd (LeadsTo-read_none c.args.pairs.now c.args.chain.0 c.requires.inside c.in_default.is b l)) on
