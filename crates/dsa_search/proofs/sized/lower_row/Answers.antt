use Rattle.std.proofs.Common.{ℕ, ◌+◌, ◌-◌, ◌*◌, ◌<◌, inr, min, length, slice_index, ap₂, ◌∙◌, arith}
use Rattle.std.proofs.lemmas.List.{length-set}
use Rattle.dsa_search.proofs.Lowering.{lowered_inside, lowered_outside}
use Rattle.dsa_search.proofs.sized.lower_row.Goals as goal

pub loop-end-preserved : goal.loop-end-preserved
loop-end-preserved c =
    let old = c.args.costs.now in
    let costs = c.loop-end.costs in
    let end = c.loop-end.end in
    let offer : ℕ → ℕ = λ k. c.args.cost + slice_index c.args.sheet.now.table.now (k - c.args.start - 2) + c.args.sheet.now.fence * slice_index c.args.sheet.now.rows.now (c.args.at + (k - c.args.from)) in
    let is = c.lesser.ensures ∙ ap₂ (λ (fence fences : ℕ). min (slice_index costs end) (c.args.cost + slice_index c.args.sheet.now.table.now (end - c.args.start - 2) + fence * fences)) c.from.ensures c.from-fences.ensures in
    let within : end < length costs = omega arith in
    record {
      count = length-set costs end c.lesser.result ∙ c.loop-end.invariant.count;
      inside = lowered_inside old costs offer c.args.from end c.lesser.result within c.loop-end.invariant.outside c.loop-end.invariant.inside is;
      outside = lowered_outside old costs offer c.args.from end c.lesser.result within c.loop-end.invariant.outside (omega arith);
    }

pub lesser-requires-clause-small : goal.lesser-requires-clause-small
lesser-requires-clause-small c = omega (arith, c.loop-end.invariant.outside c.loop-end.end (inr (omega arith)), c.requires.reached c.loop-end.end (omega arith))
