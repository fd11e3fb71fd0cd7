-- What explaining a job answers (this project's choice).
use Rattle.std.specs.Prelude.{ℕ, List, Ok, Err}
use Rattle.dsa_plan.specs.Certificate.{contents}
use Rattle.dsa_calls.specs.declared.fault.PlanFault.{PlanFault}
use Rattle.dsa_calls.specs.declared.fault.PlanFault.TheVariants.{Do}
use Rattle.dsa_report.specs.declared.jobs.Job.{Job}
use Rattle.dsa_report.specs.declared.jobs.Job.TheVariants.{Judge, Plan, Check, Replay, Run}
use Rattle.dsa_report.specs.Read.{ReadsJobText}
use Rattle.dsa_advice.specs.declared.answer.Answer.{Answer}
use Rattle.dsa_advice.specs.declared.form.Form.{Form}
use Rattle.dsa_advice.specs.Refusals.{IsRefusal}
use Rattle.dsa_advice.specs.Explained.{ExplainsChecked, ExplainsJobList, ExplainsJudged}

-- for a job to plan, to judge or to check, the answer for its members; a job to replay or to run is
-- refused
abbrev pub ExplainsJob : Job → Form → Answer → Type 0
ExplainsJob (Plan job) form a = ExplainsJobList job.list.items job.settings form a
ExplainsJob (Judge job) form a = ExplainsJudged job.list.items job.plan job.settings form a
ExplainsJob (Check job) form a =
    ExplainsChecked job.portal.items job.staging.items job.settings (contents job.certificate) form a
ExplainsJob (Replay job) form a = IsRefusal Do a
ExplainsJob (Run job) form a = IsRefusal Do a

-- refused if the text spells no job, for the cause; else the answer for what is kept of the job that it spells, which is
-- answered as the whole is (dsa_report, law `kept_is_answered_alike`)
pub data ExplainsJobText (text : List ℕ) (form : Form) (a : Answer) : Type 0 where
  is_no_job : (fault : PlanFault) → ReadsJobText text (Err fault) → IsRefusal fault a → ExplainsJobText text form a
  is_read : (job : Job) → ReadsJobText text (Ok job) → ExplainsJob job form a → ExplainsJobText text form a
