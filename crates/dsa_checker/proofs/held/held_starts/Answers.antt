use Rattle.std.proofs.Common.{inl, inr, refl, arith}
use Rattle.std.proofs.lemmas.Bool.{cases_lt}
use Rattle.dsa_checker.proofs.held.held_starts.Goals as goal

pub loop-first-preserved : goal.loop-first-preserved
loop-first-preserved c = record {
  within = omega (arith, c.min-past.ensures);
  held = λ i j le reach.
      elim (cases_lt c.loop-first.first j) [
        | inl late ↦ c.if-not-block_holds.ensures.held refl i (omega (arith, reach.fits, late)) (omega (arith, reach.nonempty, le)) j late le reach
        | inr early ↦ c.loop-first.invariant.held i j early reach
      ];
  chains = λ i low lt. c.if-not-block_holds.ensures.chains refl i (omega (arith, low, c.min-past.ensures)) lt;
}
