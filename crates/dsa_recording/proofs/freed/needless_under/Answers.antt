use Rattle.std.proofs.Common.{◌≡◌, ℕ, ◌+◌, ◌<◌, List, length, get_or, take, subst, arith}
use Rattle.dsa_recording.specs.Pairs.{Terms, terms}
use Rattle.dsa_recording.specs.declared.stream.Submission.{Submission}
use Rattle.dsa_recording.specs.Freed.{AreNeedless, HasNeedless}
use Rattle.dsa_recording.proofs.Reaudited.{as_many, audited_there, needless_all, needless_next}
use Rattle.dsa_recording.proofs.freed.needless_under.Goals as goal

pub index-requires-in-loop-number : goal.index-requires-in-loop-number
index-requires-in-loop-number c =
    let count = as_many c.requires.audited.0 c.args.all.now c.args.report.now.submissions.items c.args.report.now.audits.items c.requires.audited.1 in
    omega (arith, count, c.loop-number-test.true, c.len-number-end.ensures)

pub needless_in_submission-requires-clause-audited :
    goal.needless_in_submission-requires-clause-audited
needless_in_submission-requires-clause-audited c = (
  c.requires.audited.0,
  audited_there c.requires.audited.0 c.args.all.now c.args.report.now.submissions.items c.args.report.now.audits.items c.loop-number.number c.index.result.now c.index-in-loop-number.result.now
      c.requires.audited.1 (omega (arith, c.loop-number-test.true, c.len-number-end.ensures)) c.index.ensures c.index-in-loop-number.ensures,
)

-- with what one more submission has
more : (assumed : Terms) (es : List (List ℕ)) (ss : List Submission) (k n m sum : ℕ) (s : Submission) → k < length ss → s ≡ get_or ss k s → sum ≡ n + m
    → AreNeedless assumed es (take k ss) n → HasNeedless assumed es s m → AreNeedless assumed es (take (k + 1) ss) sum
more assumed es ss k n m sum s lt one e so_far here =
    rw e (needless_next assumed es ss k n m s lt so_far (subst (λ (t : Submission). HasNeedless assumed es t m) one here))

pub loop-number-preserved : goal.loop-number-preserved
loop-number-preserved c accepted has =
    let own = audited_there (terms accepted has.0) c.args.all.now c.args.report.now.submissions.items c.args.report.now.audits.items c.loop-number.number c.index.result.now c.index-in-loop-number.result.now
    has.1 (omega (arith, c.loop-number-test.true, c.len-number-end.ensures)) c.index.ensures c.index-in-loop-number.ensures in
    more (terms accepted c.args.assumptions) c.args.all.now c.args.report.now.submissions.items c.loop-number.number c.loop-number.needless c.in_ok-more.more c.in-Some.sum c.index.result.now
    (omega (arith, c.loop-number-test.true, c.len-number-end.ensures)) c.index.ensures c.in-Some.ensures.1 (c.loop-number.invariant accepted has) (c.in_ok-more.ensures accepted (has.0, own))

pub returns : goal.returns
returns c accepted has =
    needless_all (terms accepted c.args.assumptions) c.args.all.now c.args.report.now.submissions.items c.loop-number.number c.loop-number.needless
    (omega (arith, c.loop-number-test.false, c.len-number-end.ensures)) (c.loop-number.invariant accepted has)
