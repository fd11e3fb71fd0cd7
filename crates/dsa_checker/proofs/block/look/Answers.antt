use Rattle.std.proofs.Common.{ℕ, ◌≡◌, ◌+◌, ◌-◌, ◌*◌, ◌≤◌, max, inl, inr, length, slice_index, refl, subst, sym, arith}
use Rattle.std.proofs.lemmas.Bool.{cases_eq}
use Rattle.dsa_settings.specs.Plan.{price_of}
use Rattle.dsa_settings.specs.Settings.{sized_tariff}
use Rattle.dsa_checker.specs.Steps.{StepHolds}
use Rattle.dsa_checker.specs.Blocks.{place}
use Rattle.dsa_checker.proofs.Led.{first_step}
use Rattle.dsa_plan.proofs.Joined.{last_fits}
use Rattle.dsa_checker.proofs.Blocks.{step_by_row}
use Rattle.dsa_checker.proofs.block.look.Goals as goal

pub follow-row-requires-clause-few : goal.follow-row-requires-clause-few
follow-row-requires-clause-few c =
    let fits = last_fits c.args.sheet.now.pairs.now c.requires.sheet.forward c.args.start (max c.args.first (c.args.start + 1)) c.args.chain.1 c.args.chain.0 c.requires.chain in
    omega (arith, fits, c.requires.sheet.few, c.requires.begun, c.requires.order, c.requires.within)

pub follow-row-requires-clause-late : goal.follow-row-requires-clause-late
follow-row-requires-clause-late c = λ b leads. omega (arith, c.requires.chain.no_more b leads)

pub returns-clause-chain : goal.returns-clause-chain
returns-clause-chain c =
    c.follow-row.ensures.chain c.args.sheet.now.prices.now c.args.sheet.now.fence c.args.start (max c.args.first (c.args.start + 1)) c.requires.rows (omega (arith, c.requires.begun, c.requires.order)) c.requires.chain

pub returns-clause-held : goal.returns-clause-held
returns-clause-held c = λ end late le reach.
    let pairs = c.args.sheet.now.pairs.now in
    let prices = c.args.sheet.now.prices.now in
    let table = c.args.sheet.now.table.now in
    let start = c.args.start in
    let first = c.args.first in
    let tariff = sized_tariff c.args.sheet.now.lone c.args.sheet.now.fence table in
    let one : start + 1 - start ≡ 1 = omega arith in
    let low : slice_index prices (start + 1) ≤ slice_index prices start + price_of tariff (start + 1 - start) 0 =
    rw one (omega (arith, c.if-sheet-start.false, c.saturating_add.ensures)) in
    elim (cases_eq end (start + 1)) [
      | inl next ↦ subst (λ (z : ℕ). StepHolds tariff pairs prices start z) (sym next) (first_step tariff pairs prices (length pairs) c.requires.sheet.forward start low)
      | inr other ↦
          let from = max first (start + 1) in
          let far : start + 2 ≤ end = omega (arith, reach.nonempty, other) in
          let (more, counted, is) = c.follow-row.ensures.row prices c.args.sheet.now.fence start from c.requires.rows c.requires.chain end late (omega (arith, far, late)) le in
          let row = c.follow-row.result.0 in
          let low_end = c.max-low.result in
          let at : 64 * row + (low_end - first - 1) + (end - low_end) ≡ place first row end = omega (arith, c.max-low.ensures, late, far) in
          let size : low_end - start - 2 + (end - low_end) ≡ end - start - 2 = omega (arith, c.max-low.ensures, late, far) in
          let within : slice_index c.args.block.now.rows (place first row end) ≤ c.saturating_add-most.result + slice_index table (end - start - 2) =
          rw (at, size) at (c.if-not-are_within.ensures refl (end - low_end) (omega (arith, c.max-low.ensures, c.min-high.ensures, late, far, le, reach.fits))) in
          step_by_row c.args.sheet.now.lone c.args.sheet.now.fence table pairs prices (length pairs) c.requires.sheet.forward start end c.args.chain.1 more c.saturating_add-most.result
          (slice_index c.args.block.now.rows (place first row end)) far counted
          (rw (← c.requires.rows.unfenced end late le) is) within (omega (arith, c.saturating_add-most.ensures, c.saturating_mul.ensures))
    ]
