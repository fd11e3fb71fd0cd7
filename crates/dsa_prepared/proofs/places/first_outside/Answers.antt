use Rattle.std.proofs.Common.{refl, arith}
use Rattle.std.proofs.lemmas.Bool.{false≢true}
use Rattle.dsa_prepared.specs.Regions.{OperationLies}
use Rattle.dsa_prepared.proofs.Outside.{is_there, one_more, all_of}
use Rattle.dsa_prepared.proofs.places.first_outside.Goals as goal

pub returns-then-not-operation_lies : goal.returns-then-not-operation_lies
returns-then-not-operation_lies c =
    let o = c.index-operations-i.result in
    record {
      operation = o;
      there = is_there c.args.operations.now c.loop-i.i o c.loop-i-test.true c.index-operations-i.is;
      outside = λ h. absurd (false≢true (c.if-not-operation_lies.ensures.1 h));
      before = c.loop-i.invariant;
    }

pub loop-i-preserved : goal.loop-i-preserved
loop-i-preserved c =
    let o = c.index-operations-i.result in
    one_more (OperationLies c.args.regions.now c.args.greatest) c.args.operations.now c.loop-i.i o
    (is_there c.args.operations.now c.loop-i.i o c.loop-i-test.true c.index-operations-i.is) (c.if-not-operation_lies.ensures.0 refl) c.loop-i.invariant

pub returns : goal.returns
returns c =
    all_of (OperationLies c.args.regions.now c.args.greatest) c.args.operations.now
    (λ j o lt at. c.loop-i.invariant j o (omega (arith, lt, c.loop-i-test.false)) at)
