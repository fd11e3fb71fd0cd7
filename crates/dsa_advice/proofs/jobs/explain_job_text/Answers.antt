use Rattle.std.proofs.lemmas.Result.{IfOk-weaker}
use Rattle.dsa_advice.specs.Jobs.{is_no_job, is_read}
use Rattle.dsa_advice.proofs.jobs.explain_job_text.Goals as goal

pub returns-in-Ok : goal.returns-in-Ok
returns-in-Ok c = IfOk-weaker c.explain_job.result _ _ (λ a h. is_read c.in-Ok.job c.in-Ok.ensures h) c.explain_job.ensures

pub returns-in-Err : goal.returns-in-Err
returns-in-Err c = IfOk-weaker c.job_fault.result _ _ (λ a h. is_no_job c.in-Err.fault c.in-Err.ensures h) c.job_fault.ensures
