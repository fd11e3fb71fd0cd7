use Rattle.std.proofs.Common.{◌≡◌, ◌-◌, ◌<◌, true, length, slice_set, ◌∙◌, refl, arith}
use Rattle.std.proofs.lemmas.List.{length-set}
use Rattle.dsa_plan.specs.Chain.{LeadsTo}
use Rattle.dsa_plan.proofs.Chains.{LeadsTo-same, LeadsTo-read, LeadsTo-read_none, Reaches-from_start}
use Rattle.dsa_search.proofs.Grouping.{group_starts, group_fenced, group_done}
use Rattle.dsa_search.proofs.plan.set_fences.Goals as goal

pub loop-piece-init : goal.loop-piece-init
loop-piece-init c = record { so_far = group_starts c.args.pairs.now c.requires.forward c.args.start c.args.fences.now c.requires.some c.requires.unset; count = refl }

pub returns-then-next-end-clause-chain : goal.returns-then-next-end-clause-chain
returns-then-next-end-clause-chain c =
    let inv = c.loop-piece.invariant in
    let within : c.loop-piece.piece < length c.args.pairs.now = omega (arith, inv.so_far.inside, inv.count, c.requires.inside) in
    let leads : LeadsTo c.args.pairs.now c.loop-piece.piece c.in-Some.second = LeadsTo-read c.args.pairs.now c.loop-piece.piece c.in-Some.field-0-0 c.in-Some.second within c.in-Some.is in
    group_done c.args.pairs.now c.requires.forward c.args.start c.loop-piece.piece c.loop-piece.fences inv.so_far
    (λ b l. let same : b ≡ c.in-Some.second = LeadsTo-same c.args.pairs.now c.loop-piece.piece b c.in-Some.second l leads in omega (arith, same, c.if-next-end.true, inv.count))

pub overflow_sub-fences : goal.overflow_sub-fences
overflow_sub-fences c =
    let inv = c.loop-piece.invariant in
    let within : c.loop-piece.piece < length c.args.pairs.now = omega (arith, inv.so_far.inside, inv.count, c.requires.inside) in
    let leads : LeadsTo c.args.pairs.now c.loop-piece.piece c.in-Some.second = LeadsTo-read c.args.pairs.now c.loop-piece.piece c.in-Some.field-0-0 c.in-Some.second within c.in-Some.is in
    omega (arith, c.requires.forward c.loop-piece.piece c.in-Some.second leads, Reaches-from_start c.args.pairs.now c.requires.forward c.args.start inv.so_far.count c.loop-piece.piece inv.so_far.reached)

pub loop-piece-smaller : goal.loop-piece-smaller
loop-piece-smaller c =
    let inv = c.loop-piece.invariant in
    let within : c.loop-piece.piece < length c.args.pairs.now = omega (arith, inv.so_far.inside, inv.count, c.requires.inside) in
    let leads : LeadsTo c.args.pairs.now c.loop-piece.piece c.in-Some.second = LeadsTo-read c.args.pairs.now c.loop-piece.piece c.in-Some.field-0-0 c.in-Some.second within c.in-Some.is in
    omega (arith, c.requires.forward c.loop-piece.piece c.in-Some.second leads, within)

pub loop-piece-preserved : goal.loop-piece-preserved
loop-piece-preserved c =
    let inv = c.loop-piece.invariant in
    let within : c.loop-piece.piece < length c.args.pairs.now = omega (arith, inv.so_far.inside, inv.count, c.requires.inside) in
    let leads : LeadsTo c.args.pairs.now c.loop-piece.piece c.in-Some.second = LeadsTo-read c.args.pairs.now c.loop-piece.piece c.in-Some.field-0-0 c.in-Some.second within c.in-Some.is in
    record {
      so_far = group_fenced c.args.pairs.now c.requires.forward c.args.start c.loop-piece.piece c.loop-piece.fences inv.so_far c.in-Some.second
          (slice_set c.loop-piece.fences (c.in-Some.second - c.args.start) true) leads (omega (arith, c.if-next-end.false, inv.count)) refl;
      count = length-set c.loop-piece.fences (c.in-Some.second - c.args.start) true ∙ inv.count;
    }

pub returns-clause-chain : goal.returns-clause-chain
returns-clause-chain c =
    let inv = c.loop-piece.invariant in
    let within : c.loop-piece.piece < length c.args.pairs.now = omega (arith, inv.so_far.inside, inv.count, c.requires.inside) in
    group_done c.args.pairs.now c.requires.forward c.args.start c.loop-piece.piece c.loop-piece.fences inv.so_far
    (λ b l. absurd (LeadsTo-read_none c.args.pairs.now c.loop-piece.piece within c.in_default.is b l))
