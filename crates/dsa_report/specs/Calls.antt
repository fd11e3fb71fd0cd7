-- The calls of the jobs: what each takes, and what it answers.
use Rattle.std.specs.Prelude.{◌≡◌, ℕ, Bool, true, false, List, [], ◌∷◌, map, codes, Result, Ok}
use Rattle.std.specs.Result.{result_map_both}
use Rattle.serde_json.specs.Data.{Data, string}
use Rattle.hex.specs.Hex.{decode_of, encode_lower}
use Rattle.dsa_settings.specs.Settings.{Limits}
use Rattle.dsa_image.specs.Memory.{Memory}
use Rattle.dsa_core.specs.declared.event.Event.{Event}
use Rattle.dsa_plan.specs.Certificate.{contents, Contents}
use Rattle.dsa_cert.specs.Document.{Documents, document, kept_contents}
use Rattle.dsa_tokens.specs.Spelled.{whole, array_of, object_of}
use Rattle.dsa_calls.specs.declared.fault.PlanFault.{PlanFault}
use Rattle.dsa_calls.specs.Judge.{Judges}
use Rattle.dsa_calls.specs.Planned.{Submission, Plans}
use Rattle.dsa_calls.specs.Checked.{Checks}
use Rattle.dsa_calls.specs.Runs.{Left, Replays, Runs}
use Rattle.dsa_report.specs.declared.jobs.JobName.{JobName}
use Rattle.dsa_report.specs.declared.jobs.JobName.TheVariants.{Judge, Plan, Check, Replay, Run}
use Rattle.dsa_report.specs.declared.jobs.Job.{Job}
use Rattle.dsa_report.specs.declared.jobs.Job.TheVariants.{Judge as JudgeList, Plan as PlanList, Check as CheckBytes, Replay as ReplayEvents, Run as RunEngines}
use Rattle.dsa_report.specs.Settings.{limits_of}
use Rattle.dsa_report.specs.Plan.{kept_plan, plan_value}
use Rattle.dsa_report.specs.Image.{HasImage}
use Rattle.dsa_report.specs.Trace.{IsTrace}
use Rattle.dsa_report.specs.Job.{the_certificate, the_engines, the_image, the_list, the_plan, the_portal, the_staging, the_trace, has, HeldIf, Held, JobMembers}

-- ---- what a call takes

-- The arguments of the call of a job of this name, with its byte fields as bytes. Each call takes settings.
pub record Arguments (name : JobName) : Type 0 where
  pub settings : Limits
  pub certificate : Held name the_certificate Contents
  pub engines : Held name the_engines ℕ
  pub image : Held name the_image Memory
  pub list : Held name the_list (List ℕ)
  pub plan : Held name the_plan (List (List Bool))
  pub portal : Held name the_portal (List ℕ)
  pub staging : Held name the_staging (List ℕ)
  pub trace : Held name the_trace (List Event)

-- a call: the name of its job, and its arguments
abbrev pub Call : Type 0
Call = (name : JobName) × Arguments name

-- the call of a job that was read
abbrev pub call_of : Job → Call
call_of (JudgeList job) = (
  Judge,
  record {
    settings = job.settings;
    certificate = tt;
    engines = tt;
    image = tt;
    list = job.list.items;
    plan = job.plan;
    portal = tt;
    staging = tt;
    trace = tt;
  },
)
call_of (PlanList job) = (
  Plan,
  record {
    settings = job.settings;
    certificate = tt;
    engines = tt;
    image = tt;
    list = job.list.items;
    plan = tt;
    portal = tt;
    staging = tt;
    trace = tt;
  },
)
call_of (CheckBytes job) = (
  Check,
  record {
    settings = job.settings;
    certificate = contents job.certificate;
    engines = tt;
    image = tt;
    list = tt;
    plan = tt;
    portal = job.portal.items;
    staging = job.staging.items;
    trace = tt;
  },
)
call_of (ReplayEvents job) = (
  Replay,
  record {
    settings = job.settings;
    certificate = tt;
    engines = job.engines;
    image = job.image;
    list = job.list.items;
    plan = tt;
    portal = tt;
    staging = tt;
    trace = job.trace.items;
  },
)
call_of (RunEngines job) = (
  Run,
  record {
    settings = job.settings;
    certificate = tt;
    engines = job.engines;
    image = job.image;
    list = job.list.items;
    plan = tt;
    portal = tt;
    staging = tt;
    trace = tt;
  },
)

-- What is kept of a call: of a plan the first groups, and all later ones as one; and of a certificate the first prices and
-- pairs. What is left out changes no answer, as the law `kept_is_answered_alike` says.
abbrev pub kept_call : Call → Call
kept_call (Judge, a) = (Judge, record a { plan = kept_plan a.plan })
kept_call (Plan, a) = (Plan, a)
kept_call (Check, a) = (Check, record a { certificate = kept_contents a.certificate })
kept_call (Replay, a) = (Replay, a)
kept_call (Run, a) = (Run, a)

-- if the member is there, what it holds spells the argument
abbrev pub SpellsIf : {A B : Type 0} (there : Bool) → (A → B → Type 0) → HeldIf there A → HeldIf there B → Type 0
SpellsIf true Spells held argument = Spells held argument
SpellsIf false Spells held argument = Unit {0}

-- the text spells the bytes
abbrev pub IsHex : List ℕ → List ℕ → Type 0
IsHex text bytes = decode_of text ≡ Ok bytes

-- the members of a job of this name spell the arguments of its call
pub record AreArguments (name : JobName) (j : JobMembers name) (a : Arguments name) : Type 0 where
  pub settings : a.settings ≡ limits_of j.settings
  pub certificate : SpellsIf (has name the_certificate) Documents j.certificate a.certificate
  pub engines : SpellsIf (has name the_engines) (λ (m n : ℕ). m ≡ n) j.engines a.engines
  pub image : SpellsIf (has name the_image) (λ text image. HasImage text image) j.image a.image
  pub list : SpellsIf (has name the_list) IsHex j.list a.list
  pub plan : SpellsIf (has name the_plan) (λ (p q : List (List Bool)). p ≡ q) j.plan a.plan
  pub portal : SpellsIf (has name the_portal) IsHex j.portal a.portal
  pub staging : SpellsIf (has name the_staging) IsHex j.staging a.staging
  pub trace : SpellsIf (has name the_trace) IsTrace j.trace a.trace

-- ---- what a call answers

-- the outcome of a text: the value of an answer, or a refusal
abbrev pub JobOutcome : Type 0
JobOutcome = Result Data PlanFault

-- the object that answers a job to judge or to check (this project's choice)
abbrev pub cost_value : ℕ → Data
cost_value cost = object_of ((codes "cost", whole cost) ∷ [])

-- the object that answers a job to plan, its byte fields in lower-case hexadecimal (this project's choice)
abbrev pub planned_value : Submission → Data
planned_value p =
    object_of
    ((codes "certificate", document p.certificate) ∷ (codes "cost", whole p.cost) ∷ (codes "plan", plan_value p.plan) ∷ (codes "portal", string (encode_lower p.portal))
    ∷ (codes "staging", string (encode_lower p.staging)) ∷ [])

-- the array of batch records, each in lower-case hexadecimal
abbrev pub records_value : List (List ℕ) → Data
records_value records = array_of (map (λ bytes. string (encode_lower bytes)) records)

-- the object that answers a job to replay or to run, its byte fields in lower-case hexadecimal (this project's choice)
abbrev pub left_value : Left → Data
left_value left =
    object_of
    ((codes "batch_records", records_value left.batch_records) ∷ (codes "finished", whole left.finished)
    ∷ (codes "image", string (encode_lower left.image.bytes)) ∷ [])

-- the outcome of a call with this result: the value of its answer, or its refusal
abbrev pub job_outcome_of : {X : Type 0} → (X → Data) → Result X PlanFault → JobOutcome
job_outcome_of value found = result_map_both value (λ fault. fault) found

-- the outcome is that of some result that the call may have
abbrev pub JobOutcomeOf : {X : Type 0} → (X → Data) → (Result X PlanFault → Type 0) → JobOutcome → Type 0
JobOutcomeOf {X} value Finds outcome = (found : Result X PlanFault) × Finds found × (outcome ≡ job_outcome_of value found)

-- the outcome of the call
abbrev pub AnswersCall : Call → JobOutcome → Type 0
AnswersCall (Judge, a) outcome = JobOutcomeOf cost_value (λ o. Judges a.list a.plan a.settings o) outcome
AnswersCall (Plan, a) outcome = JobOutcomeOf planned_value (λ o. Plans a.list a.settings o) outcome
AnswersCall (Check, a) outcome = JobOutcomeOf cost_value (λ o. Checks a.portal a.staging a.settings a.certificate o) outcome
AnswersCall (Replay, a) outcome = JobOutcomeOf left_value (λ o. Replays a.list a.settings a.image a.engines a.trace o) outcome
AnswersCall (Run, a) outcome = JobOutcomeOf left_value (λ o. Runs a.list a.settings a.image a.engines o) outcome

-- the outcome of the call of a job that was read
unfoldable pub AnswersRead : Job → JobOutcome → Type 0
AnswersRead job outcome = AnswersCall (call_of job) outcome
