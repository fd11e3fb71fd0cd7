-- The fault of a text, by what was gathered.
use Rattle.std.proofs.Common.{◌≡◌, ℕ, List, Option, Some, None, ap, ◌∙◌, sym, subst}
use Rattle.dsa_descriptor.specs.declared.fault.ListFault.{ListFault}
use Rattle.dsa_descriptor.specs.declared.fault.ListFault.TheVariants.{Memory as ListMemory}
use Rattle.std.proofs.lemmas.Option.{same_Some}
use Rattle.dsa_descriptor.specs.Lists.{IsFirstFaultBy}
use Rattle.dsa_operations.specs.Faults.{OperationKeeps}
use Rattle.dsa_operations.specs.OperationFields.{OperationFields, all_spelled}
use Rattle.dsa_lines.specs.Texts.{all_fields}
use Rattle.dsa_lines.proofs.TextLemmas.{leaves_none}
use Rattle.dsa_lines.specs.declared.fault.TextFault.{TextFault}
use Rattle.dsa_lines.specs.declared.fault.TextFault.TheVariants.{Grammar, List as Listed, Memory}
use Rattle.dsa_lines.specs.TextLists.{IsFirstTextFault, IsTextFault, LeavesGrammarAt, NamesLine, Stops, StopsAt, operation_lines}

pub stops_memory : (lines : List (List ℕ)) (fs : List OperationFields) (fault : TextFault) → all_fields lines ≡ Some fs → Stops lines fault → fault ≡ Memory
stops_memory lines fs (Grammar line column what) e stops = let no : None ≡ Some fs = sym (leaves_none lines line stops) ∙ e in absurd cc
stops_memory lines fs (Listed line fault) e stops = absurd stops
stops_memory lines fs Memory e stops = λ i. Memory

pub memory_reported : (fault : ListFault) (reported : TextFault) → fault ≡ ListMemory → IsTextFault fault reported → reported ≡ Memory
memory_reported fault (Grammar line column what) e is = absurd is
memory_reported fault (Listed line listed) e is = absurd (is.1 e)
memory_reported fault Memory e is = λ i. Memory

-- what stops a line stops the lines, of which it is the first that leaves the grammar
pub stops_there : (number : ℕ) (read : Option (List OperationFields)) (lines : List (List ℕ)) (fault : TextFault) → (read ≡ None → LeavesGrammarAt lines number)
    → StopsAt number read fault → Stops lines fault
stops_there number read lines (Grammar line column what) leaves e = subst (LeavesGrammarAt lines) (sym e.0) (leaves e.1)
stops_there number read lines (Listed line fault) leaves e = e
stops_there number read lines Memory leaves e = tt

pub same_fields : (fs gs : List OperationFields) (read : Option (List OperationFields)) (bytes : List ℕ) → read ≡ Some fs → read ≡ Some gs → bytes ≡ all_spelled fs → bytes ≡ all_spelled gs
same_fields fs gs read bytes e f b = b ∙ ap all_spelled (same_Some fs gs (sym e ∙ f))

-- what stops the lines is the first fault of the text
pub first_stop : (lines : List (List ℕ)) (fault : TextFault) → Stops lines fault → IsFirstTextFault lines fault
first_stop lines (Grammar line column what) stops = stops
first_stop lines (Listed line fault) stops = absurd stops
first_stop lines Memory stops = tt

-- so is the fault of the bytes of its lines, with the line of the operation that it names
pub first_listed : (lines : List (List ℕ)) (fs : List OperationFields) (seen : List ℕ) (fault : ListFault) (reported : TextFault) → all_fields lines ≡ Some fs
    → seen ≡ all_spelled fs → IsFirstFaultBy OperationKeeps seen fault → IsTextFault fault reported → NamesLine (operation_lines 1 lines) reported → IsFirstTextFault lines reported
first_listed lines fs seen fault (Grammar line column what) e same first is names = absurd is
first_listed lines fs seen fault (Listed line listed) e same first is names =
    (fs, e, subst (λ (b : List ℕ). IsFirstFaultBy OperationKeeps b listed) same (subst (IsFirstFaultBy OperationKeeps seen) (sym is.0) first), λ memory. is.1 (sym is.0 ∙ memory), names)
first_listed lines fs seen fault Memory e same first is names = tt
