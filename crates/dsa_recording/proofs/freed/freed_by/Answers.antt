use Rattle.std.proofs.Common.{[], ◌∷◌, ap, sym, subst, ◌∙◌}
use Rattle.std.specs.List.{AllByRecursion}
use Rattle.dsa_recording.specs.Freed.{IsFreed}
use Rattle.dsa_recording.proofs.Found.{all_append}
use Rattle.dsa_recording.proofs.freed.freed_by.Goals as goal
use Rattle.dsa_recording.proofs.freed.freed_by.Goals.{then-is_more+in_ok-one+in_ok-push, else-is_more}

pub loop-more-preserved : goal.loop-more-preserved
loop-more-preserved c accepted has =
    elim c.if-is_more.branch [
      | then-is_more+in_ok-one+in_ok-push w ↦
          subst (AllByRecursion (IsFreed accepted c.args.all.now c.args.report.now)) (sym (ap (λ v. v.items) w.freed-is ∙ w.in_ok-push.ensures.items))
          (all_append (IsFreed accepted c.args.all.now c.args.report.now) c.loop-more.freed.items (w.in_ok-one.one ∷ []) (c.loop-more.invariant accepted has) (w.in_ok-one.ensures accepted has, tt))
      | else-is_more w ↦
          subst (AllByRecursion (IsFreed accepted c.args.all.now c.args.report.now)) (sym (ap (λ v. v.items) w.freed-is)) (c.loop-more.invariant accepted has)
    ]
