use Rattle.std.proofs.Common.{subst}
use Rattle.std.proofs.lemmas.Result.{err_from_is_err_and}
use Rattle.dsa_report.specs.declared.jobs.JobName.{JobName}
use Rattle.dsa_report.specs.Read.{HasParts}
use Rattle.dsa_report.proofs.jobs.named_job.Goals as goal

pub returns-in_ok-judge_of-in-Judge : goal.returns-in_ok-judge_of-in-Judge
returns-in_ok-judge_of-in-Judge c = λ d parts. c.in_ok-judge_of-in-Judge.ensures d (subst (λ (name : JobName). HasParts name d c.args.parts) c.in-Judge.is parts)

pub returns-in_err-judge_of-in-Judge : goal.returns-in_err-judge_of-in-Judge
returns-in_err-judge_of-in-Judge c = λ d parts.
    let p = err_from_is_err_and c.from_residual.result c.from_residual.ensures.1 in
    rw (p.1, p.2) (c.in_err-judge_of-in-Judge.ensures d (subst (λ (name : JobName). HasParts name d c.args.parts) c.in-Judge.is parts))

pub returns-in_ok-plan_job_of-in-Plan : goal.returns-in_ok-plan_job_of-in-Plan
returns-in_ok-plan_job_of-in-Plan c = λ d parts. c.in_ok-plan_job_of-in-Plan.ensures d (subst (λ (name : JobName). HasParts name d c.args.parts) c.in-Plan.is parts)

pub returns-in_err-plan_job_of-in-Plan : goal.returns-in_err-plan_job_of-in-Plan
returns-in_err-plan_job_of-in-Plan c = λ d parts.
    let p = err_from_is_err_and c.from_residual-in_err-plan_job_of-in-Plan.result c.from_residual-in_err-plan_job_of-in-Plan.ensures.1 in
    rw (p.1, p.2) (c.in_err-plan_job_of-in-Plan.ensures d (subst (λ (name : JobName). HasParts name d c.args.parts) c.in-Plan.is parts))

pub returns-in_ok-check_of-in-Check : goal.returns-in_ok-check_of-in-Check
returns-in_ok-check_of-in-Check c = λ d parts. c.in_ok-check_of-in-Check.ensures d (subst (λ (name : JobName). HasParts name d c.args.parts) c.in-Check.is parts)

pub returns-in_err-check_of-in-Check : goal.returns-in_err-check_of-in-Check
returns-in_err-check_of-in-Check c = λ d parts.
    let p = err_from_is_err_and c.from_residual-in_err-check_of-in-Check.result c.from_residual-in_err-check_of-in-Check.ensures.1 in
    rw (p.1, p.2) (c.in_err-check_of-in-Check.ensures d (subst (λ (name : JobName). HasParts name d c.args.parts) c.in-Check.is parts))

pub returns-in_ok-replay_of-in-Replay : goal.returns-in_ok-replay_of-in-Replay
returns-in_ok-replay_of-in-Replay c = λ d parts. c.in_ok-replay_of-in-Replay.ensures d (subst (λ (name : JobName). HasParts name d c.args.parts) c.in-Replay.is parts)

pub returns-in_err-replay_of-in-Replay : goal.returns-in_err-replay_of-in-Replay
returns-in_err-replay_of-in-Replay c = λ d parts.
    let p = err_from_is_err_and c.from_residual-in_err-replay_of-in-Replay.result c.from_residual-in_err-replay_of-in-Replay.ensures.1 in
    rw (p.1, p.2) (c.in_err-replay_of-in-Replay.ensures d (subst (λ (name : JobName). HasParts name d c.args.parts) c.in-Replay.is parts))

pub returns-in_ok-run_of-in-Run : goal.returns-in_ok-run_of-in-Run
returns-in_ok-run_of-in-Run c = λ d parts. c.in_ok-run_of-in-Run.ensures d (subst (λ (name : JobName). HasParts name d c.args.parts) c.in-Run.is parts)

pub returns-in_err-run_of-in-Run : goal.returns-in_err-run_of-in-Run
returns-in_err-run_of-in-Run c = λ d parts.
    let p = err_from_is_err_and c.from_residual-in_err-run_of-in-Run.result c.from_residual-in_err-run_of-in-Run.ensures.1 in
    rw (p.1, p.2) (c.in_err-run_of-in-Run.ensures d (subst (λ (name : JobName). HasParts name d c.args.parts) c.in-Run.is parts))
