use Rattle.std.proofs.Common.{◌≡◌, ℕ, ◌+◌, ◌-◌, ◌≤◌, length, inl, inr, subst, arith, slice_index}
use Rattle.std.proofs.lemmas.Bool.{cases_lt}
use Rattle.dsa_settings.specs.Plan.{price_of}
use Rattle.dsa_plan.specs.Chain.{IsLastBelow}
use Rattle.dsa_plan.proofs.Chains.{IsLastBelow-start}
use Rattle.dsa_settings.specs.Settings.{sized_tariff}
use Rattle.dsa_checker.specs.Steps.{StepHolds}
use Rattle.dsa_checker.proofs.Led.{first_step}
use Rattle.dsa_plan.proofs.Joined.{last_fits}
use Rattle.dsa_checker.proofs.Runs.{run_breaks, run_holds}
use Rattle.dsa_checker.proofs.sized.first_bad_end.Goals as goal

pub returns-then-sheet-start : goal.returns-then-sheet-start
returns-then-sheet-start c = record {
  reach = record { nonempty = omega arith; fits = omega arith; inside = omega (arith, c.requires.inside) };
  bad = λ holds.
      let low = holds 0 (c.args.start, IsLastBelow-start c.args.sheet.now.pairs.now c.requires.sheet.forward c.args.start) in
      let one : c.args.start + 1 - c.args.start ≡ 1 = omega arith in
      let lone : slice_index c.args.sheet.now.prices.now (c.args.start + 1) ≤ slice_index c.args.sheet.now.prices.now c.args.start + c.args.sheet.now.lone = rw one at low in
      let fits = c.requires.sheet.fits (c.args.start + 1) in
      omega (arith, lone, fits, c.if-sheet-start.true, c.saturating_add.ensures);
  before = λ k lt reach. absurd (omega (arith, lt, reach.nonempty));
}

pub loop-end-init : goal.loop-end-init
loop-end-init c =
    let tariff = sized_tariff c.args.sheet.now.lone c.args.sheet.now.fence c.args.sheet.now.table.now in
    let one : c.args.start + 1 - c.args.start ≡ 1 = omega arith in
    let low : slice_index c.args.sheet.now.prices.now (c.args.start + 1) ≤ slice_index c.args.sheet.now.prices.now c.args.start + price_of tariff (c.args.start + 1 - c.args.start) 0 =
    rw one (omega (arith, c.if-sheet-start.false, c.saturating_add.ensures)) in
    let first : StepHolds tariff c.args.sheet.now.pairs.now c.args.sheet.now.prices.now c.args.start (c.args.start + 1) =
    first_step tariff c.args.sheet.now.pairs.now c.args.sheet.now.prices.now (length c.args.sheet.now.pairs.now) c.requires.sheet.forward c.args.start low in
    let two : c.args.start + 1 + 1 ≡ c.args.start + 2 = omega arith in
    record {
      held = λ k lt reach. let is : c.args.start + 1 ≡ k = omega (arith, lt, reach.nonempty) in subst (λ (z : ℕ). StepHolds tariff c.args.sheet.now.pairs.now c.args.sheet.now.prices.now c.args.start z) is first;
      chain = rw two at (c.chain_step-piece.ensures.chain c.args.start c.requires.sheet.forward (IsLastBelow-start c.args.sheet.now.pairs.now c.requires.sheet.forward c.args.start));
      late = omega arith;
      within = omega (arith, c.min-reach.ensures, c.requires.inside);
    }

pub returns-in-Some : goal.returns-in-Some
returns-in-Some c =
    let pairs = c.args.sheet.now.pairs.now in
    let prices = c.args.sheet.now.prices.now in
    let first = c.in-Some.ensures in
    let last = c.last_of_run-last.result in
    let bad = c.in-Some.bad in
    let low = c.loop-end.invariant.late in
    let fits = c.requires.sheet.fits bad in
    record {
      reach = record {
        nonempty = omega (arith, low, first.low);
        fits = omega (arith, first.high, c.last_of_run-last.ensures.inside, c.min-reach.ensures);
        inside = omega (arith, first.high, c.last_of_run-last.ensures.inside, c.min-reach.ensures);
      };
      bad = run_breaks c.args.sheet.now.lone c.args.sheet.now.fence c.args.sheet.now.table.now pairs prices (length pairs) c.requires.sheet.forward c.args.start c.loop-end.end last c.loop-end.fences c.loop-end.piece low c.loop-end.invariant.chain c.last_of_run-last.ensures.before
          c.saturating_add-most.result bad first (omega (arith, first.above, fits, c.saturating_add-most.ensures, c.saturating_mul.ensures));
      before = λ k lt reach. elim (cases_lt k c.loop-end.end) [
        | inl less ↦ c.loop-end.invariant.held k less reach
        | inr more ↦
            run_holds c.args.sheet.now.lone c.args.sheet.now.fence c.args.sheet.now.table.now pairs prices (length pairs) c.requires.sheet.forward c.args.start c.loop-end.end k c.loop-end.fences c.loop-end.piece low c.loop-end.invariant.chain
            (λ b leads. omega (arith, c.last_of_run-last.ensures.before b leads, lt, first.high)) c.saturating_add-most.result (omega (arith, c.saturating_add-most.ensures, c.saturating_mul.ensures))
            (λ j from to. first.before j from (omega (arith, to, lt))) k more (omega arith)
      ];
    }

pub chain_step-requires-clause-few : goal.chain_step-requires-clause-few
chain_step-requires-clause-few c =
    let fits = last_fits c.args.sheet.now.pairs.now c.requires.sheet.forward c.args.start c.loop-end.end c.loop-end.fences c.loop-end.piece c.loop-end.invariant.chain in
    omega (arith, fits, c.requires.sheet.few, c.loop-end-test.true, c.min-reach.ensures)

pub loop-end-smaller : goal.loop-end-smaller
loop-end-smaller c =
    let far = c.last_of_run-last.ensures.far c.loop-end.end c.loop-end-test.true c.loop-end.invariant.chain.no_more in
    omega (arith, far, c.loop-end-test.true)

pub loop-end-preserved : goal.loop-end-preserved
loop-end-preserved c =
    let pairs = c.args.sheet.now.pairs.now in
    let prices = c.args.sheet.now.prices.now in
    let last = c.last_of_run-last.result in
    let end = c.loop-end.end in
    let fences = c.loop-end.fences in
    let piece = c.loop-end.piece in
    let far = c.last_of_run-last.ensures.far end c.loop-end-test.true c.loop-end.invariant.chain.no_more in
    let chain = c.loop-end.invariant.chain in
    let before = c.last_of_run-last.ensures.before in
    let upto : IsLastBelow pairs c.args.start last fences piece = record { reached = chain.reached; below = omega (arith, chain.below, far); no_more = before } in
    record {
      held = λ k lt reach. elim (cases_lt k end) [
        | inl less ↦ c.loop-end.invariant.held k less reach
        | inr more ↦
            run_holds c.args.sheet.now.lone c.args.sheet.now.fence c.args.sheet.now.table.now pairs prices (length pairs) c.requires.sheet.forward c.args.start end last fences piece c.loop-end.invariant.late chain before
            c.saturating_add-most.result (omega (arith, c.saturating_add-most.ensures, c.saturating_mul.ensures)) c.in_default.ensures k more (omega (arith, lt))
      ];
      chain = c.chain_step.ensures.chain c.args.start c.requires.sheet.forward upto;
      late = omega (arith, far, c.loop-end.invariant.late);
      within = omega (arith, c.last_of_run-last.ensures.inside);
    }
