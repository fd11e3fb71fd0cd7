-- Refusals: a status, and a message that names the cause (this project's choice).
use Rattle.std.specs.Prelude.{◌≡◌, ℕ, List, ◌++◌, codes, decimal, string_bytes}
use Rattle.dsa_sentences.specs.declared.causes.TextCause.TheVariants.{Line}
use Rattle.dsa_sentences.specs.Endings.{ending_of}
use Rattle.dsa_lines.specs.declared.fault.TextFault.{TextFault}
use Rattle.dsa_lines.specs.declared.fault.TextFault.TheVariants.{Grammar, List as Listed, Memory as TextMemory}
use Rattle.dsa_calls.specs.declared.fault.PlanFault.{PlanFault}
use Rattle.dsa_calls.specs.declared.fault.PlanFault.TheVariants.{Memory}
use Rattle.dsa_calls.specs.Fault.{fault_number, fault_name, fault_indices, fault_inner, indices_text, inner_text, list_cause}
use Rattle.dsa_advice.specs.declared.answer.Answer.{Answer}

-- the number, the name and the indices of a cause, as in the line of `dsa`
abbrev pub cause_words : PlanFault → List ℕ
cause_words fault =
    decimal (fault_number fault) ++ (codes " " ++ (fault_name fault ++ (indices_text (fault_indices fault) ++ inner_text (fault_inner fault))))

-- after other words the message names the cause, in brackets
abbrev pub NamesCause : PlanFault → List ℕ → Type 0
NamesCause fault message =
    (front after : List ℕ) × (message ≡ front ++ (codes " [" ++ (cause_words fault ++ (codes "]\n" ++ after))))

-- after other words the message names the grammar as the cause
abbrev pub NamesGrammar : List ℕ → Type 0
NamesGrammar message = (front : List ℕ) × (message ≡ front ++ ending_of Line)

-- a refusal for this cause
pub record IsRefusal (fault : PlanFault) (a : Answer) : Type 0 where
  pub status : a.status ≡ 1
  pub cause : NamesCause fault (string_bytes a.text)

-- a refusal of a text for this fault
abbrev pub RefusesText : TextFault → Answer → Type 0
RefusesText (Grammar line column what) a = (a.status ≡ 1) × NamesGrammar (string_bytes a.text)
RefusesText (Listed line fault) a = IsRefusal (list_cause fault) a
RefusesText TextMemory a = IsRefusal Memory a
