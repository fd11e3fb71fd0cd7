-- What explaining a text, a list, a given plan or the bytes of an emission answers (this project's choice).
use Rattle.std.specs.Prelude.{◌≡◌, ◌⊎◌, ⊤, ◌-◌, ◌==◌, ℕ, Bool, List, [], ◌++◌, codes, decimal, map, string_bytes, Option, Some, None, Ok, Err, if◌then◌else◌}
use Rattle.std.specs.List.{flat_map}
use Rattle.dsa_descriptor.specs.declared.descriptor.Descriptor.{Descriptor}
use Rattle.dsa_descriptor.specs.declared.fault.ListFault.{ListFault}
use Rattle.dsa_descriptor.specs.Fields.{Fields}
use Rattle.dsa_descriptor.specs.Descriptors.{fields}
use Rattle.dsa_descriptor.specs.Fences.{barriers_of as list_barriers, unfenced_list}
use Rattle.dsa_descriptor.specs.Lists.{AreOfOneOwner, IsFirstFaultBy, IsFirstListFault}
use Rattle.dsa_operations.specs.declared.operation.Operation.{Operation}
use Rattle.dsa_operations.specs.declared.operation.Operation.TheVariants as operation
use Rattle.dsa_operations.specs.Faults.{OperationKeeps}
use Rattle.dsa_operations.specs.OperationFields.{operation_fields}
use Rattle.dsa_operations.specs.Operations.{spelling_of}
use Rattle.dsa_settings.specs.Plan.{Plan}
use Rattle.dsa_settings.specs.Settings.{Limits}
use Rattle.dsa_emission.specs.EmissionFaults.{IsEmission}
use Rattle.dsa_plan.specs.Certificate.{Contents}
use Rattle.dsa_lines.specs.declared.fault.TextFault.{TextFault}
use Rattle.dsa_lines.specs.Barriers.{barriers_of}
use Rattle.dsa_lines.specs.Texts.{all_fields, lines_of}
use Rattle.dsa_lines.specs.TextLists.{IsFirstTextFault}
use Rattle.dsa_calls.specs.declared.fault.PlanFault.{PlanFault}
use Rattle.dsa_calls.specs.declared.fault.PlanFault.TheVariants.{Memory}
use Rattle.dsa_calls.specs.Checked.{Checks, IsShownLeast}
use Rattle.dsa_calls.specs.Fault.{list_cause}
use Rattle.dsa_calls.specs.Judge.{Judges, JudgesPieces}
use Rattle.dsa_calls.specs.Lists.{IsListOf}
use Rattle.dsa_calls.specs.Planned.{Submission, PlansOperations}
use Rattle.dsa_lists.specs.ReadLists.{PlannedPieces, PlansRead}
use Rattle.dsa_reasons.specs.declared.fences.Detail.{Detail}
use Rattle.dsa_explain.specs.Runs.{Labelling, labelling}
use Rattle.dsa_advice.specs.declared.answer.Answer.{Answer}
use Rattle.dsa_advice.specs.declared.form.Form.{Form}
use Rattle.dsa_advice.specs.declared.form.Form.TheVariants.{Words, Picture, Json, Waits}
use Rattle.dsa_advice.specs.Refusals.{IsRefusal, RefusesText}
use Rattle.dsa_advice.specs.Comments.{names_of}
use Rattle.dsa_advice.specs.Origins.{origins_from}
use Rattle.dsa_advice.specs.declared.shown.Subject.{Subject}
use Rattle.dsa_advice.specs.Shown.{AnswersPlan, AnswersSubject, TellsPlan, unlabelled}

-- an allocation failed, or this is a cause
abbrev pub MemoryOr : (PlanFault → Type 0) → PlanFault → Type 0
MemoryOr Cause fault = (fault ≡ Memory) ⊎ Cause fault

-- ---- the plan of least cost

-- the labels of the pieces of operations with these names
abbrev pub labels_of : Limits → List Operation → List (List ℕ) → Labelling
labels_of s operations names = record { origins = origins_from s.greatest_transfer 0 operations; names = names }

-- refused if planning refuses the operations, for its cause; else the plan of the operations and their barriers, with the
-- operation that each piece is of, and these names of the operations
pub data ExplainsOperations (operations : List Operation) (barriers : List Bool) (names : List (List ℕ)) (s : Limits) (form : Form) (a : Answer) : Type 0 where
  is_refused : (fault : PlanFault) → MemoryOr (λ f. PlansRead s operations barriers (Err f)) fault → IsRefusal fault a
      → ExplainsOperations operations barriers names s form a
  is_planned : (p : PlannedPieces) → PlansRead s operations barriers (Ok p)
      → AnswersPlan s p.plan p.pieces p.barriers (labels_of s operations names) (Some p.cost) form a → ExplainsOperations operations barriers names s form a

-- the list of a job: refused if the bytes spell no descriptors of one owner; else the answer for these
pub data ExplainsJobList (list : List ℕ) (s : Limits) (form : Form) (a : Answer) : Type 0 where
  is_no_job_list : (fault : ListFault) → IsFirstListFault list fault → IsRefusal (list_cause fault) a → ExplainsJobList list s form a
  is_job_list : (ds : List Descriptor) → IsListOf list ds → ExplainsOperations (map operation.Descriptor ds) [] [] s form a → ExplainsJobList list s form a

-- a list, whose fences are barriers: refused if the bytes without these spell no operations of one owner; else the answer for
-- the operations
pub data ExplainsList (list : List ℕ) (s : Limits) (form : Form) (a : Answer) : Type 0 where
  is_no_list : (fault : ListFault) → IsFirstFaultBy OperationKeeps (unfenced_list list) fault → IsRefusal (list_cause fault) a → ExplainsList list s form a
  is_list : (operations : List Operation) → unfenced_list list ≡ flat_map spelling_of operations → AreOfOneOwner spelling_of operations
      → ExplainsOperations operations (list_barriers list) [] s form a → ExplainsList list s form a

-- refused if the text spells no list; else the answer for the operations and the barriers that it spells, with the comments of
-- its operations as their names
pub data ExplainsText (text : List ℕ) (keep_fences : Bool) (s : Limits) (form : Form) (a : Answer) : Type 0 where
  is_refused_text : (fault : TextFault) → IsFirstTextFault (lines_of text) fault → RefusesText fault a → ExplainsText text keep_fences s form a
  is_assembled : (operations : List Operation) → all_fields (lines_of text) ≡ Some (map operation_fields operations) → AreOfOneOwner spelling_of operations
      → ExplainsOperations operations (barriers_of keep_fences (lines_of text)) (names_of (lines_of text)) s form a → ExplainsText text keep_fences s form a

-- ---- the plan that bytes submit

-- refused if `check` refuses the bytes or the certificate, for its cause; else the plan that the
-- bytes submit, which the certificate proves to be of least cost
pub data ExplainsChecked (portal staging : List ℕ) (s : Limits) (c : Contents) (form : Form) (a : Answer) : Type 0 where
  is_refused_check : (fault : PlanFault) → MemoryOr (λ f. Checks portal staging s c (Err f)) fault → IsRefusal fault a → ExplainsChecked portal staging s c form a
  is_checked : (cost : ℕ) (plan : Plan) (ds : List Descriptor) → IsEmission s portal staging plan ds → IsShownLeast s (map fields ds) plan c cost
      → AnswersPlan s plan (map operation.Descriptor ds) [] unlabelled (Some cost) form a → ExplainsChecked portal staging s c form a

-- ---- a given plan

-- how much more the plan costs than a least plan
abbrev pub more_words : ℕ → List ℕ
more_words more =
    if more == 0 then codes "no plan costs less\n" else codes "this plan costs " ++ (decimal more ++ codes " more\n")

-- the line of the least cost, if it is known
abbrev pub least_words : ℕ → Option ℕ → List ℕ
least_words cost None = []
least_words cost (Some least) = codes "least " ++ (decimal least ++ (codes ": " ++ more_words (cost - least)))

-- the cost of a least plan of the pieces, if one can be made: a planner needs a staging area of its own
abbrev pub IsLeastCost : Limits → List Fields → Option ℕ → Type 0
IsLeastCost s fs None = (fault : PlanFault) × PlansOperations s fs (Err fault)
IsLeastCost s fs (Some least) = (p : Submission) × PlansOperations s fs (Ok p) × (least ≡ p.cost)

-- the plan in words, and after them the least cost, if there is one
pub record TellsJudged (s : Limits) (detail : Detail) (plan : Plan) (pieces : List Descriptor) (cost : ℕ) (text : List ℕ) : Type 0 where
  pub words : List ℕ
  pub least : Option ℕ
  pub tells : TellsPlan s detail plan (map operation.Descriptor pieces) [] unlabelled words
  pub is_least : IsLeastCost s (map fields pieces) least
  pub text_is : text ≡ words ++ least_words cost least

-- a picture and JSON have the least cost beside that of the plan
abbrev pub ComparesCosts : Form → Type 0
ComparesCosts (Words detail) = ⊥
ComparesCosts (Picture range) = ⊤
ComparesCosts Json = ⊤
ComparesCosts Waits = ⊥

-- a judged plan as a picture, as JSON or in words, with the least cost, or by its waits
pub data AnswersJudged (s : Limits) (plan : Plan) (pieces : List Descriptor) (cost : ℕ) (form : Form) (a : Answer) : Type 0 where
  is_compared : (least : Option ℕ) → ComparesCosts form → IsLeastCost s (map fields pieces) least → AnswersPlan s plan (map operation.Descriptor pieces) [] unlabelled least form a → AnswersJudged s plan pieces cost form a
  is_waiting : form ≡ Waits → AnswersPlan s plan (map operation.Descriptor pieces) [] unlabelled None form a → AnswersJudged s plan pieces cost form a
  is_told : (detail : Detail) → form ≡ Words detail → a.status ≡ 0 → TellsJudged s detail plan pieces cost (string_bytes a.text) → AnswersJudged s plan pieces cost form a

-- refused if `judge` refuses the list or the plan, for its cause; else the plan with the cost that
-- `judge` answers
pub data ExplainsJudged (list : List ℕ) (plan : Plan) (s : Limits) (form : Form) (a : Answer) : Type 0 where
  is_refused_judge : (fault : PlanFault) → MemoryOr (λ f. Judges list plan s (Err f)) fault → IsRefusal fault a → ExplainsJudged list plan s form a
  is_judged : (cost : ℕ) (ds : List Descriptor) → IsListOf list ds → JudgesPieces (map fields ds) plan s (Ok cost)
      → AnswersJudged s plan ds cost form a → ExplainsJudged list plan s form a

-- ---- for private clauses

-- what a least plan costs, as far as a form names it
abbrev pub IsNamedLeast : Limits → List Fields → Form → Option ℕ → Type 0
IsNamedLeast s fs (Words detail) least = IsLeastCost s fs least
IsNamedLeast s fs (Picture range) least = IsLeastCost s fs least
IsNamedLeast s fs Json least = IsLeastCost s fs least
IsNamedLeast s fs Waits least = least ≡ None

-- a plan in words, and after them the line of the least cost
pub record TellsWithLeast (s : Limits) (detail : Detail) (x : Subject) (cost : ℕ) (a : Answer) : Type 0 where
  pub done : a.status ≡ 0
  pub words : List ℕ
  pub tells : TellsPlan s detail x.plan.now x.pieces.now x.barriers.now (labelling x.labels) words
  pub text_is : string_bytes a.text ≡ words ++ least_words cost x.least

-- a plan in a form, with the least cost
abbrev pub AnswersWithLeast : Limits → Subject → ℕ → Form → Answer → Type 0
AnswersWithLeast s x cost (Words detail) a = TellsWithLeast s detail x cost a
AnswersWithLeast s x cost (Picture range) a = AnswersSubject s x (Picture range) a
AnswersWithLeast s x cost Json a = AnswersSubject s x Json a
AnswersWithLeast s x cost Waits a = AnswersSubject s x Waits a
