use Rattle.std.proofs.Common.{◌≡◌, false, true, arith}
use Rattle.dsa_resume.specs.GivenUp.{IsIdle}
use Rattle.dsa_resume.proofs.Found.{failed, idle_here, idle_within, least_here, none_more, unmarked}
use Rattle.dsa_resume.proofs.ends.first_idle.Goals as goal
use Rattle.dsa_resume.proofs.ends.first_idle.Goals.{else-mark-ne0-via-then-mark-ne0+else-not-has_failed_at, else-mark-ne0-via-else-mark-ne0}

pub returns-then-not-has_failed_at : goal.returns-then-not-has_failed_at
returns-then-not-has_failed_at c =
    record {
      idle = idle_here c.args.completions.now c.args.given_up.now c.loop-index.index c.loop-index-test.true c.if-mark-ne0.true
          (λ r at high. let yes : false ≡ true = c.if-not-has_failed_at.ensures.1 (r, at, high) in absurd cc);
      first = least_here (IsIdle c.args.completions.now c.args.given_up.now) c.loop-index.index c.loop-index.invariant;
    }

pub loop-index-preserved : goal.loop-index-preserved
loop-index-preserved c =
    none_more (IsIdle c.args.completions.now c.args.given_up.now) c.loop-index.index c.loop-index.invariant
    (elim c.else-mark-ne0.branch [
      | else-mark-ne0-via-then-mark-ne0+else-not-has_failed_at w ↦ failed c.args.completions.now c.args.given_up.now c.loop-index.index (w.has_failed_at.ensures.0 w.if-not-has_failed_at.false)
      | else-mark-ne0-via-else-mark-ne0 w ↦ unmarked c.args.completions.now c.args.given_up.now c.loop-index.index w.if-mark-ne0.false
    ])

pub returns : goal.returns
returns c i idle = c.loop-index.invariant i (omega (arith, idle_within c.args.completions.now c.args.given_up.now i idle, c.loop-index-test.false)) idle
