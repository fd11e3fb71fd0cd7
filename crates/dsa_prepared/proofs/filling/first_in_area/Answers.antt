use Rattle.dsa_prepared.specs.Rows.{region_in}
use Rattle.std.proofs.Common.{map, below_more, refl, arith}
use Rattle.dsa_prepared.specs.Filling.{new_region, IsClearAt}
use Rattle.dsa_prepared.proofs.Put.{apart_found}
use Rattle.dsa_prepared.proofs.filling.first_in_area.Goals as goal

pub loop-i-preserved : goal.loop-i-preserved
loop-i-preserved c =
    let here : IsClearAt (map region_in c.args.regions.now) c.args.bases.now c.args.area c.loop-i.i =
    apart_found c.args.area c.new_region.result c.args.area (new_region (map region_in c.args.regions.now) c.args.bases.now c.loop-i.i)
    refl c.new_region.ensures (c.if-not-is_apart_from.ensures.0 refl) in
    below_more _ _ c.loop-i.invariant here

pub returns : goal.returns
returns c = λ i lt. c.loop-i.invariant i (omega (arith, lt, c.loop-i-test.false))
