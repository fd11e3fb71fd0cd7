use Rattle.std.proofs.Common.{◌≡◌, map, refl, arith, below_more}
use Rattle.std.proofs.lemmas.List.{length-map}
use Rattle.dsa_descriptor.specs.Descriptors.{fields}
use Rattle.dsa_image.proofs.Equal.{same_lists, same_here, here_same}
use Rattle.dsa_image.proofs.same.same_pieces.Goals as goal

pub returns-then-not-same_descriptor : goal.returns-then-not-same_descriptor
returns-then-not-same_descriptor c = (
  λ t. absurd cc,
  λ e.
      let so = c.same_descriptor.ensures.1 (here_same fields c.args.a.now c.args.b.now c.loop-i.i c.index-a-i.result c.index-b-i.result (omega arith) (omega arith) c.index-a-i.is c.index-b-i.is e) in
      absurd cc,
)

pub loop-i-preserved : goal.loop-i-preserved
loop-i-preserved c =
    below_more _ _ c.loop-i.invariant
    (same_here fields c.args.a.now c.args.b.now c.loop-i.i c.index-a-i.result c.index-b-i.result (omega arith) (omega arith) c.index-a-i.is c.index-b-i.is
    (c.same_descriptor.ensures.0 c.if-not-same_descriptor.false))

pub returns : goal.returns
returns c =
    let same : map fields c.args.a.now ≡ map fields c.args.b.now =
    same_lists (map fields c.args.a.now) (map fields c.args.b.now)
    (omega (arith, length-map c.args.a.now fields, length-map c.args.b.now fields))
    (λ k lt. c.loop-i.invariant k (omega (arith, length-map c.args.a.now fields))) in
    (λ t. same, λ e. refl)
