use Rattle.std.proofs.Common.{arith}
use Rattle.dsa_prepared.proofs.Rising.{between_two, found_by_halves, past_all}
use Rattle.dsa_prepared.proofs.places.place_in.Goals as goal

pub returns-then-i-regions : goal.returns-then-i-regions
returns-then-i-regions c =
    past_all c.args.regions.now c.args.address c.ended_at-i.result c.ended_at-i.ensures.ended c.if-i-regions.true

pub returns-then-address-region : goal.returns-then-address-region
returns-then-address-region c =
    between_two c.args.regions.now c.args.address c.ended_at-i.result c.requires c.ended_at-i.ensures.ended
    (omega (arith, c.if-i-regions.false, c.ended_at-i.ensures.bound)) c.if-address-region.true

pub returns : goal.returns
returns c =
    found_by_halves c.args.regions.now c.args.address c.ended_at-i.result c.ended_at-i.ensures.ended c.ended_at-i.ensures.ahead
    (omega (arith, c.if-i-regions.false, c.ended_at-i.ensures.bound)) c.if-address-region.false
