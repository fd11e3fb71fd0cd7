use Rattle.dsa_prepared.specs.Rows.{region_in}
use Rattle.std.proofs.Common.{map, below_more, refl, arith}
use Rattle.dsa_prepared.specs.Filling.{new_region, AreApartAt}
use Rattle.dsa_prepared.proofs.Put.{apart_found}
use Rattle.dsa_prepared.proofs.filling.first_earlier.Goals as goal

pub loop-j-preserved : goal.loop-j-preserved
loop-j-preserved c =
    let here : AreApartAt (map region_in c.args.regions.now) c.args.bases.now c.args.region c.loop-j.j =
    apart_found c.new_region-here.result c.new_region.result (new_region (map region_in c.args.regions.now) c.args.bases.now c.args.region) (new_region (map region_in c.args.regions.now) c.args.bases.now c.loop-j.j)
    c.new_region-here.ensures c.new_region.ensures (c.if-not-is_apart_from.ensures.0 refl) in
    below_more _ _ c.loop-j.invariant here

pub returns : goal.returns
returns c = λ i lt. c.loop-j.invariant i (omega (arith, lt, c.loop-j-test.false))
