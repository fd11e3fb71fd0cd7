use Rattle.std.proofs.Common.{◌<◌, length, arith}
use Rattle.std.proofs.lemmas.Bool.{false≢true}
use Rattle.dsa_prepared.proofs.Rising.{lies_here, lies_there}
use Rattle.dsa_prepared.proofs.places.lies_in_one.Goals as goal

pub returns-then-i-regions : goal.returns-then-i-regions
returns-then-i-regions c =
    let here = lies_here c.args.regions.now c.args.span c.ended_at-i.result c.requires c.ended_at-i.ensures.ended c.ended_at-i.ensures.ahead in (
      λ no. absurd (false≢true no),
      λ lies. absurd (omega (arith, (here lies).0, c.if-i-regions.true)),
    )

pub returns : goal.returns
returns c =
    let inside : c.ended_at-i.result < length c.args.regions.now = omega (arith, c.if-i-regions.false, c.ended_at-i.ensures.bound) in (
      λ yes. lies_there c.args.regions.now c.args.span c.ended_at-i.result inside (c.lies_in.ensures.0 yes),
      λ lies. c.lies_in.ensures.1 (lies_here c.args.regions.now c.args.span c.ended_at-i.result c.requires c.ended_at-i.ensures.ended c.ended_at-i.ensures.ahead lies).1,
    )
