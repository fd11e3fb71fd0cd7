use Rattle.std.proofs.Common.{inl, inr, refl, arith}
use Rattle.std.proofs.lemmas.Bool.{cases_eq}
use Rattle.dsa_prepared.proofs.reading.first_unbounded.Goals as goal

pub loop-k-preserved : goal.loop-k-preserved
loop-k-preserved c = record {
  from = omega (arith, c.loop-k.invariant.from);
  lie = λ j late lt.
      elim (cases_eq j c.loop-k.k) [
        | inl here ↦ rw here (c.if-not-are_bounded.ensures refl)
        | inr other ↦ c.loop-k.invariant.lie j late (omega (arith, lt, other))
      ];
}
