use Rattle.std.proofs.Common.{◌≡◌, ◌+◌, arith, get_or, sym, subst, ℕ, ◌∙◌}
use Rattle.std.specs.Prelude.{Some, slice_get}
use Rattle.std.proofs.lemmas.Option.{slice_get-get_or}
use Rattle.dsa_conflicts.specs.declared.stamps.Range.{Range}
use Rattle.dsa_conflicts.specs.Stamps.{covers_at, points_at}
use Rattle.dsa_conflicts.specs.Latest.{IsLatestOf}
use Rattle.dsa_conflicts.proofs.Latest.{latest_more, latest_skip}
use Rattle.dsa_conflicts.proofs.stamps.latest_of.Goals as goal
use Rattle.dsa_conflicts.proofs.stamps.latest_of.Goals.{then-range, else-range}

pub loop-range-init : goal.loop-range-init
loop-range-init c = record { upper = λ r among. absurd (omega (arith, among.1)); attained = λ some. absurd (omega arith) }

pub loop-range-preserved : goal.loop-range-preserved
loop-range-preserved c =
    let ranges = c.args.ranges.now in
    let i = c.loop-range.range-index in
    let x : Range = get_or ranges i (record { from = 0; to = 0 }) in
    let at : slice_get ranges i ≡ Some x = slice_get-get_or ranges i (record { from = 0; to = 0 }) c.loop-range-test.true in
    let points = points_at c.args.stamps.now in
    let covers = covers_at c.args.stamps.now in
    let P = λ (m : ℕ). IsLatestOf points covers ranges (i + 1) m in
    elim c.if-range.branch [
      | then-range w ↦ subst P (sym (w.latest-is ∙ w.max-latest.ensures)) (latest_more ranges i x at points covers c.loop-range.latest c.loop-range.invariant w.latest.result w.if-range.true w.latest.ensures)
      | else-range w ↦ subst P (sym w.latest-is) (latest_skip ranges i x at points covers c.loop-range.latest c.loop-range.invariant w.if-range.false)
    ]
