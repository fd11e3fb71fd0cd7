use Rattle.std.proofs.Common.{length, inl, inr, sym, arith}
use Rattle.std.proofs.lemmas.Bool.{cases_lt}
use Rattle.dsa_image.proofs.Equal.{same_lists}
use Rattle.dsa_calls.proofs.PiecesChecked.{ends_differ}
use Rattle.dsa_calls.proofs.checking.first_other.Goals as goal

pub returns-then-submitted-listed : goal.returns-then-submitted-listed
returns-then-submitted-listed g c =
    same_lists c.args.submitted.now c.args.listed.now (omega (arith, c.if-submitted-listed.true))
    (λ k lt. c.loop-index.invariant k (omega (arith, lt, c.loop-index-test.false, c.min-both.ensures, c.if-submitted-listed.true)))

pub returns-else-submitted-listed : goal.returns-else-submitted-listed
returns-else-submitted-listed g c =
    record {
      before = λ j lt. c.loop-index.invariant j (omega (arith, lt, c.loop-index-test.false));
      other = λ e.
          elim (cases_lt (length c.args.submitted.now) (length c.args.listed.now)) [
            | inl less ↦ ends_differ c.args.submitted.now c.args.listed.now c.min-both.result (omega (arith, less, c.min-both.ensures)) (omega (arith, less, c.min-both.ensures)) e
            | inr from ↦ ends_differ c.args.listed.now c.args.submitted.now c.min-both.result (omega (arith, from, c.min-both.ensures)) (omega (arith, from, c.min-both.ensures, c.if-submitted-listed.false)) (sym e)
          ];
    }
