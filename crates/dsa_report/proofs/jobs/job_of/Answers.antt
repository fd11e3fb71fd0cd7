use Rattle.std.proofs.Common.{inr}
use Rattle.std.proofs.lemmas.Result.{err_from_is_err_and}
use Rattle.dsa_report.proofs.Refusals.{name_refused}
use Rattle.dsa_report.proofs.Listed.{is_an_object}
use Rattle.dsa_report.proofs.jobs.job_of.Goals as goal

pub returns-in-None : goal.returns-in-None
returns-in-None c = λ d is. inr (name_refused d (is_an_object d is.0 is.1) (c.in-None.ensures d is))

pub returns-in_err-parts-in-Some : goal.returns-in_err-parts-in-Some
returns-in_err-parts-in-Some c = λ d is.
    let p = err_from_is_err_and c.from_residual.result c.from_residual.ensures.1 in
    rw (p.1, p.2) (c.in_err-parts-in-Some.ensures d is (c.in-Some.ensures d is))

pub returns-in_ok-parts-in-Some : goal.returns-in_ok-parts-in-Some
returns-in_ok-parts-in-Some c = λ d is. c.named_job.ensures d (c.in_ok-parts-in-Some.ensures d is (c.in-Some.ensures d is))
