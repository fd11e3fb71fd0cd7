use Rattle.std.proofs.Common.{◌<◌, length, refl, arith}
use Rattle.dsa_plan.specs.Chain.{LeadsTo}
use Rattle.dsa_plan.proofs.Chains.{LeadsTo-same, LeadsTo-read, LeadsTo-read_none}
use Rattle.dsa_plan.proofs.Joined.{Reaches-add}
use Rattle.dsa_search.proofs.costs.last_within.Goals as goal

pub loop-piece-smaller : goal.loop-piece-smaller
loop-piece-smaller c =
    let within : c.loop-piece.piece < length c.args.pairs.now = omega (arith, c.loop-piece-test.true, c.requires.inside) in
    let leads : LeadsTo c.args.pairs.now c.loop-piece.piece c.in-Some.second = LeadsTo-read c.args.pairs.now c.loop-piece.piece c.in-Some.field-0-0 c.in-Some.second within c.in-Some.is in
    omega (arith, c.requires.forward c.loop-piece.piece c.in-Some.second leads, c.loop-piece-test.true)

pub loop-piece-preserved : goal.loop-piece-preserved
loop-piece-preserved c =
    let within : c.loop-piece.piece < length c.args.pairs.now = omega (arith, c.loop-piece-test.true, c.requires.inside) in
    let leads : LeadsTo c.args.pairs.now c.loop-piece.piece c.in-Some.second = LeadsTo-read c.args.pairs.now c.loop-piece.piece c.in-Some.field-0-0 c.in-Some.second within c.in-Some.is in
    record {
      reached = λ start from. Reaches-add c.args.pairs.now start c.loop-piece.fences 1 c.loop-piece.piece c.in-Some.second (c.loop-piece.invariant.reached start from) (c.loop-piece.piece, refl, leads);
      within = omega (arith, c.if-second-reach.true);
      few = omega (arith, c.requires.forward c.loop-piece.piece c.in-Some.second leads, c.loop-piece.invariant.few);
    }

pub returns-in_default : goal.returns-in_default
returns-in_default c = λ start from.
    let within : c.loop-piece.piece < length c.args.pairs.now = omega (arith, c.loop-piece-test.true, c.requires.inside) in
    let leads : LeadsTo c.args.pairs.now c.loop-piece.piece c.in-Some.second = LeadsTo-read c.args.pairs.now c.loop-piece.piece c.in-Some.field-0-0 c.in-Some.second within c.in-Some.is in
    record {
      reached = c.loop-piece.invariant.reached start from;
      below = omega (arith, c.loop-piece-test.true);
      no_more = λ b l. let same = LeadsTo-same c.args.pairs.now c.loop-piece.piece c.in-Some.second b leads l in omega (arith, same, c.if-second-reach.false);
    }

pub returns-in_default-2 : goal.returns-in_default-2
returns-in_default-2 c = λ start from. record {
  reached = c.loop-piece.invariant.reached start from;
  below = omega (arith, c.loop-piece-test.true);
  no_more = λ b l. absurd (LeadsTo-read_none c.args.pairs.now c.loop-piece.piece (omega (arith, c.loop-piece-test.true, c.requires.inside)) c.in_default.is b l);
}

pub returns : goal.returns
returns c = λ start from. record {
  reached = c.loop-piece.invariant.reached start from;
  below = omega (arith, c.loop-piece.invariant.within);
  no_more = λ b l. omega (arith, c.requires.forward c.loop-piece.piece b l, c.loop-piece-test.false);
}
