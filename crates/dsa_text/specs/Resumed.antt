-- What `resume` answers (this project's choice).
use Rattle.std.specs.Prelude.{◌≡◌, ◌⊎◌, ◌++◌, ℕ, Bool, List, Some, codes, decimal, map, string_bytes, Ok, Err}
use Rattle.dsa_descriptor.specs.Lists.{AreOfOneOwner}
use Rattle.dsa_operations.specs.declared.operation.Operation.{Operation}
use Rattle.dsa_operations.specs.OperationFields.{operation_fields}
use Rattle.dsa_operations.specs.Operations.{spelling_of, writes_of}
use Rattle.dsa_lists.specs.ReadLists.{PlannedPieces, PlansRead}
use Rattle.dsa_settings.specs.Settings.{Limits}
use Rattle.dsa_lines.specs.declared.fault.TextFault.{TextFault}
use Rattle.dsa_lines.specs.Barriers.{barriers_of, list_text}
use Rattle.dsa_lines.specs.TextLists.{IsFirstTextFault}
use Rattle.dsa_lines.specs.Texts.{all_fields, lines_of}
use Rattle.dsa_calls.specs.declared.fault.PlanFault.{PlanFault}
use Rattle.dsa_calls.specs.declared.fault.PlanFault.TheVariants.{Memory}
use Rattle.dsa_calls.specs.Fault.{indices_text}
use Rattle.dsa_resume.specs.declared.fault.ResumeFault.{ResumeFault}
use Rattle.dsa_resume.specs.declared.fault.ResumeFault.TheVariants.{Plan, NotFailed, PassedBarrier, Records, SharedRecord}
use Rattle.dsa_resume.specs.declared.left.LeftOrder.{LeftOrder}
use Rattle.dsa_resume.specs.Causes.{resume_indices, resume_name, resume_number}
use Rattle.dsa_resume.specs.Rest.{Remainder}
use Rattle.dsa_resume.specs.Resumed.{ResumesPieces, Stopped}
use Rattle.dsa_advice.specs.declared.answer.Answer.{Answer}
use Rattle.dsa_advice.specs.Refusals.{IsRefusal, RefusesText}

-- the number, the name and the places of a refusal, as in the line of `dsa`
abbrev pub resume_words : ResumeFault → List ℕ
resume_words fault = decimal (resume_number fault) ++ (codes " " ++ (resume_name fault ++ indices_text (resume_indices fault)))

-- after other words the message names the refusal, in brackets
abbrev pub NamesResume : ResumeFault → List ℕ → Type 0
NamesResume fault message = (front : List ℕ) × (message ≡ front ++ (codes " [" ++ (resume_words fault ++ codes "]\n")))

-- the refusal for this cause: an allocation failed, or one of the records, a record that is shared, what is given up, and
-- barriers
abbrev pub IsResumeRefusal : ResumeFault → Answer → Type 0
IsResumeRefusal (Plan fault) a = IsRefusal fault a
IsResumeRefusal Records a = (a.status ≡ 1) × NamesResume Records (string_bytes a.text)
IsResumeRefusal (SharedRecord i j) a = (a.status ≡ 1) × NamesResume (SharedRecord i j) (string_bytes a.text)
IsResumeRefusal (NotFailed i) a = (a.status ≡ 1) × NamesResume (NotFailed i) (string_bytes a.text)
IsResumeRefusal (PassedBarrier i j) a = (a.status ≡ 1) × NamesResume (PassedBarrier i j) (string_bytes a.text)

-- the canonical text of what is left
pub record IsRestText (rest : Remainder Operation) (a : Answer) : Type 0 where
  pub status : a.status ≡ 0
  pub lines : string_bytes a.text ≡ list_text (map operation_fields rest.pieces) rest.barriers

-- the text spells these operations, of one owner; a line `barrier` is a barrier, and so is the fence of a line if fences are kept
pub record IsListedText (text : List ℕ) (keep_fences : Bool) (operations : List Operation) (barriers : List Bool) : Type 0 where
  pub spelled : all_fields (lines_of text) ≡ Some (map operation_fields operations)
  pub one_owner : AreOfOneOwner spelling_of operations
  pub barriers_are : barriers ≡ barriers_of keep_fences (lines_of text)

-- these pieces with their barriers have stopped, with these records and with what is given up
abbrev pub stopped : PlannedPieces → List ℕ → List ℕ → Stopped Operation
stopped p records given_up = record { pieces = p.pieces; barriers = p.barriers; records = records; given_up = given_up }

-- The answer to a text, to records and to what is given up: the refusal of a text that spells no list, of a list that can't
-- be planned, or of the records and of what is given up; or the text of what is left.
pub data ResumesText (text : List ℕ) (keep_fences : Bool) (s : Limits) (records given_up : List ℕ) (order : LeftOrder) (a : Answer) : Type 0 where
  is_no_list : (fault : TextFault) → IsFirstTextFault (lines_of text) fault → RefusesText fault a
      → ResumesText text keep_fences s records given_up order a
  is_unplanned : (operations : List Operation) (barriers : List Bool) (fault : PlanFault) → IsListedText text keep_fences operations barriers
      → (fault ≡ Memory) ⊎ PlansRead s operations barriers (Err fault)
      → IsRefusal fault a → ResumesText text keep_fences s records given_up order a
  is_refused : (operations : List Operation) (barriers : List Bool) (p : PlannedPieces) (fault : ResumeFault) → IsListedText text keep_fences operations barriers
      → PlansRead s operations barriers (Ok p)
      → (fault ≡ Plan Memory) ⊎ ResumesPieces writes_of order (stopped p records given_up) (Err fault)
      → IsResumeRefusal fault a → ResumesText text keep_fences s records given_up order a
  has_left : (operations : List Operation) (barriers : List Bool) (p : PlannedPieces) (rest : Remainder Operation) → IsListedText text keep_fences operations barriers
      → PlansRead s operations barriers (Ok p)
      → ResumesPieces writes_of order (stopped p records given_up) (Ok rest)
      → IsRestText rest a → ResumesText text keep_fences s records given_up order a
