use Rattle.std.proofs.Common.{ℕ, ◌+◌, ◌-◌, ◌<◌, inr, length, slice_index, ◌∙◌, arith}
use Rattle.std.proofs.lemmas.List.{length-set}
use Rattle.dsa_search.proofs.Lowering.{lowered_inside, lowered_outside}
use Rattle.dsa_search.proofs.sized.lower_run.Goals as goal

pub loop-end-preserved : goal.loop-end-preserved
loop-end-preserved c =
    let old = c.args.costs.now in
    let costs = c.loop-end.costs in
    let end = c.loop-end.end in
    let offer : ℕ → ℕ = λ k. c.args.cost + slice_index c.args.table.now (k - c.args.start - 2) in
    let within : end < length costs = omega arith in
    record {
      count = length-set costs end c.lesser.result ∙ c.loop-end.invariant.count;
      inside = lowered_inside old costs offer c.args.from end c.lesser.result within c.loop-end.invariant.outside c.loop-end.invariant.inside c.lesser.ensures;
      outside = lowered_outside old costs offer c.args.from end c.lesser.result within c.loop-end.invariant.outside (omega arith);
    }

pub lesser-requires-clause-small : goal.lesser-requires-clause-small
lesser-requires-clause-small c = omega (arith, c.loop-end.invariant.outside c.loop-end.end (inr (omega arith)), c.requires.reached c.loop-end.end (omega arith))
