-- Steps of the prices along one run of a chain, where a batch has a price by its size.
use Rattle.std.proofs.Common.{ℕ, ◌≡◌, ◌+◌, ◌-◌, ◌*◌, ◌≤◌, List, slice_index, arith}
use Rattle.dsa_settings.specs.Plan.{Tariff, price_of}
use Rattle.dsa_plan.specs.Chain.{Pairs, GoForward, LeadsTo, IsLastBelow, HasCountBelow}
use Rattle.dsa_plan.proofs.Fences.{price_of-batch}
use Rattle.dsa_checker.specs.Steps.{StepHolds}
use Rattle.dsa_settings.specs.Settings.{sized_tariff}
use Rattle.dsa_checker.specs.Sized.{AreWithin, IsFirstAbove}
use Rattle.dsa_checker.proofs.Led.{step_by_count}

module _ (lone fence : ℕ) (table : List ℕ) (pairs : Pairs) (prices : List ℕ) (n : ℕ) (forward : GoForward pairs) (start : ℕ) where
  abbrev tariff : Tariff
  tariff = sized_tariff lone fence table

  -- the chain's piece is the last one below each end of the run
  module _ (end last fences piece : ℕ) (late : start + 2 ≤ end) (chain : IsLastBelow pairs start end fences piece) (before : (b : ℕ) → LeadsTo pairs piece b → last ≤ b) where
    pub run_count : (k : ℕ) → end ≤ k → k ≤ last → HasCountBelow pairs start k fences
    run_count k low high = (
      piece,
      record {
        reached = chain.reached;
        below = omega (arith, chain.below, low);
        no_more = λ b leads. omega (arith, before b leads, high);
      },
    )

    batch_price : (k : ℕ) → end ≤ k → price_of tariff (k - start) fences ≡ slice_index table (k - start - 2) + fence * fences
    batch_price k low = price_of-batch tariff (k - start) fences (omega (arith, late, low))

    pub run_holds : (most : ℕ) → most ≤ slice_index prices start + fence * fences → AreWithin prices table start end (last + 1) most → (k : ℕ) → end ≤ k → k ≤ last → StepHolds tariff pairs prices start k
    run_holds most low within k from to =
        let here = within k from (omega (arith, to)) in
        step_by_count tariff pairs prices n forward start k fences (run_count k from to) (omega (arith, here, low, batch_price k from))

    pub run_breaks : (most bad : ℕ) → IsFirstAbove prices table start end (last + 1) most bad → slice_index prices start + fence * fences ≤ most → StepHolds tariff pairs prices start bad → ⊥
    run_breaks most bad first high holds =
        let to : bad ≤ last = omega (arith, first.high) in
        let here = holds fences (run_count bad first.low to) in
        absurd (omega (arith, here, first.above, high, batch_price bad first.low))
