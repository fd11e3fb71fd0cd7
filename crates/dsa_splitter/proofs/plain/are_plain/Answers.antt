use Rattle.std.proofs.Common.{◌≡◌, length, map, refl, arith}
use Rattle.std.specs.Prelude.{Some, slice_get}
use Rattle.std.proofs.lemmas.Option.{slice_get_read}
use Rattle.dsa_descriptor.specs.Descriptors.{fields}
use Rattle.dsa_ranges.proofs.Places.{fields_at}
use Rattle.dsa_splitter.proofs.AsTheyStand.{plain_more, plain_whole, plain_clear}
use Rattle.dsa_splitter.proofs.plain.are_plain.Goals as goal

pub loop-d-preserved : goal.loop-d-preserved
loop-d-preserved c =
    let ds = c.args.list.now in
    let d = c.d-item.result in
    let n = c.loop-d.d-index in
    let here : slice_get ds n ≡ Some d = slice_get_read ds (length ds) n d refl (omega (arith, c.loop-d-test.true)) c.d-item.is in
    let at : slice_get (map fields ds) n ≡ Some (fields d) = fields_at ds n d (omega (arith, c.loop-d-test.true)) c.d-item.is in
    plain_more ds n d here at c.in-Some.p c.in-Some.q (λ x h. c.in-Some.ensures d.size x h)
    c.loop-d.longest c.loop-d.low c.loop-d.high c.loop-d.from c.loop-d.to
    c.max-longest.result c.min-low.result c.max-high.result c.min-from.result c.max-to.result
    (omega (arith, c.max-longest.ensures)) (omega (arith, c.max-longest.ensures))
    (omega (arith, c.min-low.ensures)) (omega (arith, c.min-low.ensures, c.min.ensures)) (omega (arith, c.min-low.ensures, c.min.ensures))
    (omega (arith, c.max-high.ensures)) (omega (arith, c.max-high.ensures, c.max.ensures)) (omega (arith, c.max-high.ensures, c.max.ensures))
    (omega (arith, c.min-from.ensures)) (omega (arith, c.min-from.ensures)) (omega (arith, c.max-to.ensures)) (omega (arith, c.max-to.ensures))
    c.loop-d.invariant

pub returns-then-is_outside-clause-whole : goal.returns-then-is_outside-clause-whole
returns-then-is_outside-clause-whole c = λ yes'.
    plain_whole c.args.list.now c.loop-d.longest c.loop-d.low c.loop-d.high c.loop-d.from c.loop-d.to c.loop-d.d-index
    (omega (arith, c.loop-d-test.false)) c.loop-d.invariant c.args.greatest (omega arith)

pub returns-then-is_outside-clause-clear : goal.returns-then-is_outside-clause-clear
returns-then-is_outside-clause-clear c = λ yes'.
    plain_clear c.args.list.now c.loop-d.longest c.loop-d.low c.loop-d.high c.loop-d.from c.loop-d.to c.loop-d.d-index
    (omega (arith, c.loop-d-test.false)) c.loop-d.invariant c.args.area
    (λ x low' high'. c.is_outside.ensures c.if-is_outside.true x low' (omega (arith, high')))
    (λ x from' to'. c.is_outside-then-is_outside.ensures yes' x from' (omega (arith, to')))
