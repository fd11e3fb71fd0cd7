use Rattle.std.proofs.Common.{◌≡◌, map, refl, arith, below_more}
use Rattle.std.proofs.lemmas.List.{length-map}
use Rattle.dsa_operations.specs.declared.operation.Operation.{Operation}
use Rattle.dsa_image.proofs.Equal.{same_lists, same_here, here_same}
use Rattle.dsa_core.proofs.operations.OperationWorkable.are_same.Goals as goal

pub returns-then-not-is_same : goal.returns-then-not-is_same
returns-then-not-is_same c = (
  λ t. absurd cc,
  λ e.
      let so = c.is_same.ensures.1 (here_same (λ (o : Operation). o) c.args.a.now c.args.b.now c.loop-i.i c.index-a-i.result c.index-b-i.result (omega arith) (omega arith) c.index-a-i.is c.index-b-i.is e) in
      absurd cc,
)

pub loop-i-preserved : goal.loop-i-preserved
loop-i-preserved c =
    below_more _ _ c.loop-i.invariant
    (same_here (λ (o : Operation). o) c.args.a.now c.args.b.now c.loop-i.i c.index-a-i.result c.index-b-i.result (omega arith) (omega arith) c.index-a-i.is c.index-b-i.is
    (c.is_same.ensures.0 c.if-not-is_same.false))

pub returns : goal.returns
returns c =
    let same : map (λ (o : Operation). o) c.args.a.now ≡ map (λ (o : Operation). o) c.args.b.now =
    same_lists (map (λ (o : Operation). o) c.args.a.now) (map (λ (o : Operation). o) c.args.b.now)
    (omega (arith, length-map c.args.a.now (λ (o : Operation). o), length-map c.args.b.now (λ (o : Operation). o)))
    (λ k lt. c.loop-i.invariant k (omega (arith, length-map c.args.a.now (λ (o : Operation). o)))) in
    (λ t. same, λ e. refl)
