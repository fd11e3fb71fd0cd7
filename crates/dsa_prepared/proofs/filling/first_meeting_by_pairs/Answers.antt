use Rattle.std.proofs.Common.{◌≡◌, map, below_more, ap, arith}
use Rattle.dsa_descriptor.specs.declared.span.Span.{Span}
use Rattle.dsa_prepared.specs.Filling.{AllBelow, IsApartFromEarlier, LiesBetween, new_region}
use Rattle.dsa_prepared.specs.Rows.{region_in}
use Rattle.dsa_prepared.proofs.filling.first_meeting_by_pairs.Goals as goal

pub returns-in-Some : goal.returns-in-Some
returns-in-Some c =
    let first = c.in-Some.ensures in
    ((c.loop-i-test.true, c.loop-i.invariant.apart, λ all. first.2 (all c.in-Some.j first.0)), first)

pub loop-i-preserved : goal.loop-i-preserved
loop-i-preserved c =
    let rs = map region_in c.args.regions.now in
    let bases = c.args.bases.now in
    let here : IsApartFromEarlier rs bases c.loop-i.i = c.in-None.ensures in
    let first : c.new_region-region.result.first ≡ (new_region rs bases c.loop-i.i).first = ap (λ (s : Span). s.first) c.new_region-region.ensures in
    let len : c.new_region-region.result.len ≡ (new_region rs bases c.loop-i.i).len = ap (λ (s : Span). s.len) c.new_region-region.ensures in
    let lies : LiesBetween rs bases c.min-bottom.result c.max-top.result c.loop-i.i = (omega (arith, first, c.min-bottom.ensures), omega (arith, first, len, c.end.ensures, c.max-top.ensures)) in
    let wider : AllBelow c.loop-i.i (LiesBetween rs bases c.min-bottom.result c.max-top.result) =
    λ j lt. let was = c.loop-i.invariant.between j lt in (omega (arith, was.0, c.min-bottom.ensures), omega (arith, was.1, c.max-top.ensures)) in
    record {
      apart = below_more _ _ c.loop-i.invariant.apart here;
      between = below_more _ _ wider lies;
    }

pub returns : goal.returns
returns c = λ i lt. c.loop-i.invariant.apart i (omega (arith, lt, c.loop-i-test.false))
