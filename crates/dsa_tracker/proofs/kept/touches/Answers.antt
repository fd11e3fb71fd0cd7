use Rattle.std.proofs.Common.{◌≡◌, false, true, sym, ◌∙◌, arith}
use Rattle.dsa_tracker.proofs.Stored.{touch_here, touch_earlier, touch_later, touched}
use Rattle.dsa_tracker.proofs.kept.touches.Goals as goal
use Rattle.dsa_tracker.proofs.kept.touches.Goals.{then-low-high, else-low-high}

pub loop-index-init : goal.loop-index-init
loop-index-init c = (λ (h : false ≡ true). absurd cc, λ h. let lt = h.4 in absurd (omega (arith, lt)))

pub loop-index-preserved : goal.loop-index-preserved
loop-index-preserved c =
    elim c.if-low-high.branch [
      | then-low-high w ↦ (
        λ h. touch_here c.args.store.now c.args.first c.args.last c.loop-index.index c.max-low.result c.min-high.result c.max-low.ensures c.min-high.ensures w.if-low-high.true,
        λ h. w.is_found-is,
      )
      | else-low-high w ↦ (
        λ h. touch_later c.args.store.now c.args.first c.args.last c.loop-index.index (c.loop-index.invariant.0 (sym w.is_found-is ∙ h)),
        λ h. w.is_found-is ∙ c.loop-index.invariant.1 (touch_earlier c.args.store.now c.args.first c.args.last c.loop-index.index c.max-low.result c.min-high.result c.max-low.ensures c.min-high.ensures w.if-low-high.false h),
      )
    ]

pub returns : goal.returns
returns c =
    let all = touched c.args.store.now c.args.first c.args.last c.loop-index.index (omega (arith, c.count-index-end.ensures, c.loop-index-test.false, c.loop-index.auto.index-end)) in
    (λ h. all.0 (c.loop-index.invariant.0 h), λ h. c.loop-index.invariant.1 (all.1 h))
