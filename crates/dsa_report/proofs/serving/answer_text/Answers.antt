use Rattle.std.proofs.lemmas.Result.{err_from_is_err_and}
use Rattle.dsa_report.specs.Answer.{IsJobOutcome}
use Rattle.dsa_report.specs.Calls.{AnswersRead}
use Rattle.dsa_report.proofs.Outcomes.{GivesLine-weaker, text_refused, outcome_of_text}
use Rattle.dsa_report.proofs.serving.answer_text.Goals as goal

pub returns : goal.returns
returns g c =
    let job = c.in_ok-job.job in
    GivesLine-weaker (AnswersRead job) (IsJobOutcome c.args.text.now) c.job_line.result (outcome_of_text c.args.text.now job c.in_ok-job.ensures) c.job_line.ensures

pub returns-in_err-job : goal.returns-in_err-job
returns-in_err-job g c =
    let fault = c.in_err-job.field-0.0 in
    let p = err_from_is_err_and c.from_residual.result c.from_residual.ensures.1 in
    rw (p.1, p.2) (text_refused c.args.text.now fault c.in_err-job.ensures)
