use Rattle.std.proofs.Common.{Err}
use Rattle.std.proofs.lemmas.Result.{err_from_is_err_and}
use Rattle.dsa_calls.specs.Lists.{OrMemory}
use Rattle.dsa_calls.specs.Judge.{Judges, JudgesPieces}
use Rattle.dsa_calls.proofs.Over.{list_refused, only_outcome}
use Rattle.dsa_calls.proofs.JudgedOnce.{list_judged, one_judged, plain_judged}
use Rattle.dsa_calls.proofs.judging.judge_bytes.Goals as goal
use Rattle.dsa_calls.proofs.judging.judge_bytes.Goals.{After-drop-pieces}

pub returns-in_err-pieces-clause-only : goal.returns-in_err-pieces-clause-only
returns-in_err-pieces-clause-only c =
    let p = err_from_is_err_and c.from_residual.result c.from_residual.ensures.1 in
    let told = list_refused (λ cost. cost) (λ fs o. JudgesPieces fs c.args.plan.now c.args.settings.now o) c.args.list.now c.in_err-pieces.field-0.0 _ p.2 c.in_err-pieces.ensures.fault in
    rw p.1 (only_outcome (λ cost. cost) (Judges c.args.list.now c.args.plan.now c.args.settings.now) (one_judged c.args.list.now c.args.plan.now c.args.settings.now) (Err _) told)

answer : (c : After-drop-pieces) → OrMemory (λ cost. cost) (Judges c.args.list.now c.args.plan.now c.args.settings.now) c.judge_pieces.result
answer c =
    let found = c.in_ok-pieces.ensures.found in
    list_judged c.args.list.now c.args.plan.now c.args.settings.now c.in_ok-pieces.pieces.items c.deref.result.now c.judge_pieces.result
    (record { spelled = found.0; owner = found.1 }) c.deref.ensures.value
    (plain_judged c.deref.result.now c.args.plan.now c.args.settings.now c.judge_pieces.result c.judge_pieces.ensures)

pub returns-clause-answer : goal.returns-clause-answer
returns-clause-answer c = answer c

pub returns-clause-only : goal.returns-clause-only
returns-clause-only c =
    only_outcome (λ cost. cost) (Judges c.args.list.now c.args.plan.now c.args.settings.now) (one_judged c.args.list.now c.args.plan.now c.args.settings.now) c.judge_pieces.result (answer c)
