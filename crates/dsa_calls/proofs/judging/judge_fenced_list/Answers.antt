use Rattle.std.proofs.Common.{List, Err, sym, subst, ◌∙◌}
use Rattle.std.proofs.lemmas.Result.{err_from_is_err_and}
use Rattle.dsa_descriptor.specs.declared.descriptor.Descriptor.{Descriptor}
use Rattle.dsa_calls.specs.Lists.{IsListOf, OrMemory}
use Rattle.dsa_descriptor.specs.Fences.{unfenced_list}
use Rattle.dsa_calls.specs.Fenced.{JudgesFenced}
use Rattle.dsa_calls.proofs.FencedJudged.{judged_refused, judged_answer, judged_only}
use Rattle.dsa_calls.proofs.judging.judge_fenced_list.Goals as goal
use Rattle.dsa_calls.proofs.judging.judge_fenced_list.Goals.{After-drop-read-2}

pub returns-in_err-read-clause-answer : goal.returns-in_err-read-clause-answer
returns-in_err-read-clause-answer c =
    let p = err_from_is_err_and c.from_residual.result c.from_residual.ensures.1 in
    rw p.1 (judged_refused c.args.list.now c.args.plan.now c.args.settings.now c.in_err-read.field-0.0 p.0 p.2 c.in_err-read.ensures.fault)

pub returns-in_err-read-clause-only : goal.returns-in_err-read-clause-only
returns-in_err-read-clause-only c =
    let p = err_from_is_err_and c.from_residual.result c.from_residual.ensures.1 in
    rw p.1 (judged_only c.args.list.now c.args.plan.now c.args.settings.now (Err p.0) (judged_refused c.args.list.now c.args.plan.now c.args.settings.now c.in_err-read.field-0.0 p.0 p.2 c.in_err-read.ensures.fault))

answer : (c : After-drop-read-2) → OrMemory (λ cost. cost) (JudgesFenced c.args.list.now c.args.plan.now c.args.settings.now) c.judge_pieces.result
answer c =
    judged_answer c.args.list.now c.args.plan.now c.args.settings.now c.deref.result.now c.deref-2.result.now c.judge_pieces.result
    (subst (λ (ds : List Descriptor). IsListOf (unfenced_list c.args.list.now) ds) (sym c.deref.ensures.value) (record { spelled = c.in_ok-read.ensures.found.0; owner = c.in_ok-read.ensures.found.1 }))
    (c.deref-2.ensures.value ∙ c.in_ok-read.ensures.barriers) c.judge_pieces.ensures

pub returns-clause-answer : goal.returns-clause-answer
returns-clause-answer c = answer c

pub returns-clause-only : goal.returns-clause-only
returns-clause-only c = judged_only c.args.list.now c.args.plan.now c.args.settings.now c.judge_pieces.result (answer c)
