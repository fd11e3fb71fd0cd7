-- What explaining an input answers: notes beside an answer to operations change neither its status nor its text.
use Rattle.std.proofs.Common.{◌≡◌, ◌∙◌, ℕ, Bool, false, List, [], ap, Result, IfOk, string_bytes, sym, subst, Some, codes}
use Rattle.std.proofs.lemmas.Result.{IfOk-weaker}
use Rattle.dsa_descriptor.specs.Fences.{barriers_of as barriers_in}
use Rattle.dsa_settings.specs.Settings.{Limits}
use Rattle.dsa_lines.specs.declared.fault.TextFault.{TextFault}
use Rattle.dsa_lines.specs.declared.fault.TextFault.TheVariants.{Grammar, List as Listed, Memory as TextMemory}
use Rattle.dsa_lines.specs.Barriers.{barriers_of}
use Rattle.dsa_lines.specs.Texts.{lines_of}
use Rattle.dsa_calls.specs.declared.fault.PlanFault.{PlanFault}
use Rattle.dsa_calls.specs.declared.fault.PlanFault.TheVariants.{Memory, Settings as Outside}
use Rattle.dsa_calls.specs.Fault.{list_cause}
use Rattle.clap.specs.declared.parser.matches.ArgMatches.{ArgMatches}
use Rattle.dsa_explain.specs.declared.picture.PieceRange.{PieceRange}
use Rattle.dsa_advice.specs.declared.answer.Answer.{Answer}
use Rattle.dsa_advice.specs.declared.form.Form.{Form}
use Rattle.dsa_text.specs.declared.taken.Content.{Content}
use Rattle.dsa_text.specs.declared.taken.Content.TheVariants.{Text, List as InList, Recording}
use Rattle.dsa_advice.specs.Comments.{names_of}
use Rattle.dsa_operations.specs.declared.operation.Operation.{Operation}
use Rattle.dsa_advice.specs.Explained.{ExplainsList, ExplainsOperations as ExplainsPlanned, ExplainsText, is_assembled, is_list, is_no_list, is_planned, is_refused, is_refused_text}
use Rattle.dsa_advice.specs.Shown.{form_of}
use Rattle.dsa_text.specs.Inputs.{ExplainsContent, ExplainsInput, ExplainsOperations, ExplainsSaid, names_pieces, spells_none, spells_settings}
use Rattle.dsa_text.specs.Options.{IsFlag, range_of}
use Rattle.dsa_text.specs.Taken.{said_in}
use Rattle.dsa_text.specs.Recorded.{ExplainsRecording, is_audited, is_refused_audit}
use Rattle.dsa_advice.specs.Refusals.{IsRefusal, NamesCause, NamesGrammar, RefusesText}
use Rattle.dsa_advice.proofs.Answered.{both, plan_beside}

refused_beside : (fault : PlanFault) (a b : Answer) → b.status ≡ a.status → b.text ≡ a.text → IsRefusal fault a → IsRefusal fault b
refused_beside fault a b status text r =
    record { status = status ∙ r.status; cause = subst (λ (t : List ℕ). NamesCause fault t) (sym (ap string_bytes text)) r.cause }

text_refused : (fault : TextFault) (a b : Answer) → b.status ≡ a.status → b.text ≡ a.text → RefusesText fault a → RefusesText fault b
text_refused (Grammar line column what) a b status text r =
    (status ∙ r.0, subst (λ (t : List ℕ). NamesGrammar t) (sym (ap string_bytes text)) r.1)
text_refused (Listed line fault) a b status text r = refused_beside (list_cause fault) a b status text r
text_refused TextMemory a b status text r = refused_beside Memory a b status text r

planned_beside : (operations : List Operation) (bs : List Bool) (names : List (List ℕ)) (s : Limits) (form : Form) (a b : Answer)
    → b.status ≡ a.status → b.text ≡ a.text → ExplainsPlanned operations bs names s form a → ExplainsPlanned operations bs names s form b
planned_beside operations bs names s form a b status text (is_refused fault cause r) =
    is_refused fault cause (refused_beside fault a b status text r)
planned_beside operations bs names s form a b status text (is_planned p says answers) =
    is_planned p says (plan_beside s p.plan p.pieces _ _ _ form a b status text answers)

list_beside : (list : List ℕ) (s : Limits) (form : Form) (a b : Answer)
    → b.status ≡ a.status → b.text ≡ a.text → ExplainsList list s form a → ExplainsList list s form b
list_beside list s form a b status text (is_no_list fault first r) = is_no_list fault first (refused_beside (list_cause fault) a b status text r)
list_beside list s form a b status text (is_list operations spelled owner explains) =
    is_list operations spelled owner (planned_beside operations (barriers_in list) [] s form a b status text explains)

text_beside : (lines : List ℕ) (keep : Bool) (s : Limits) (form : Form) (a b : Answer)
    → b.status ≡ a.status → b.text ≡ a.text → ExplainsText lines keep s form a → ExplainsText lines keep s form b
text_beside lines keep s form a b status text (is_refused_text fault assembles r) =
    is_refused_text fault assembles (text_refused fault a b status text r)
text_beside lines keep s form a b status text (is_assembled operations spelled owner explains) =
    is_assembled operations spelled owner
    (planned_beside operations (barriers_of keep (lines_of lines)) (names_of (lines_of lines)) s form a b status text explains)

recording_beside : (bytes : List ℕ) (s : Limits) (form : Form) (a b : Answer)
    → b.status ≡ a.status → b.text ≡ a.text → ExplainsRecording bytes s form a → ExplainsRecording bytes s form b
recording_beside bytes s form a b status text (is_refused_audit listed lists refused one same) =
    is_refused_audit listed lists refused (status ∙ one) (text ∙ same)
recording_beside bytes s form a b status text (is_audited listed lists answered explains) =
    is_audited listed lists answered (text_beside (string_bytes listed.text) false s form a b status text explains)

content_beside : (content : Content) (input : List ℕ) (keep : Bool) (s : Limits) (form : Form) (a b : Answer)
    → b.status ≡ a.status → b.text ≡ a.text → ExplainsContent content input keep s form a → ExplainsContent content input keep s form b
content_beside Text input keep s form a b status text h = text_beside input keep s form a b status text h
content_beside InList input keep s form a b status text h =
    list_beside input s form a b status text h
content_beside Recording input keep s form a b status text h = recording_beside input s form a b status text h

operations_beside : (content : Content) (m : ArgMatches) (input : List ℕ) (form : Form) (a b : Answer)
    → b.status ≡ a.status → b.text ≡ a.text → ExplainsOperations content m input form a → ExplainsOperations content m input form b
operations_beside content m input form a b status text (spells_none w words none r) =
    spells_none w words none (refused_beside Outside a b status text r)
operations_beside content m input form a b status text (spells_settings w s keep words settings flag explains) =
    spells_settings w s keep words settings flag (content_beside content input keep s form a b status text explains)

pub refusal_noted : {E : Type 0} (r : Result Answer E) (fault : PlanFault) (a : Answer)
    → IfOk r (λ b. b.text ≡ a.text) → IfOk r (λ b. b.status ≡ a.status) → IsRefusal fault a → IfOk r (IsRefusal fault)
refusal_noted r fault a texts statuses h =
    both r _ _ _ (λ b text status. refused_beside fault a b status text h) texts statuses

pub operations_noted : {E : Type 0} (r : Result Answer E) (content : Content) (m : ArgMatches) (input : List ℕ) (form : Form) (a : Answer)
    → IfOk r (λ b. b.text ≡ a.text) → IfOk r (λ b. b.status ≡ a.status) → ExplainsOperations content m input form a
    → IfOk r (ExplainsOperations content m input form)
operations_noted r content m input form a texts statuses h =
    both r _ _ _ (λ b text status. operations_beside content m input form a b status text h) texts statuses

-- ---- an input

-- explained as what is said or seen, in the form that the flags ask for
pub as_input : {E : Type 0} (r : Result Answer E) (m : ArgMatches) (input : List ℕ) (range : PieceRange) (svg json waits all : Bool) (form : Form)
    → range_of m ≡ Some range → IsFlag m (codes "svg") svg → IsFlag m (codes "json") json → IsFlag m (codes "waits") waits → IsFlag m (codes "all") all
    → form ≡ form_of range svg json waits all → IfOk r (ExplainsSaid (said_in m) m input form) → IfOk r (ExplainsInput m input)
as_input r m input range svg json waits all form named svg_is json_is waits_is all_is same h =
    IfOk-weaker r _ _ (λ a x.
    names_pieces range svg json waits all named svg_is json_is waits_is all_is
    (subst (λ (f : Form). ExplainsSaid (said_in m) m input f a) same x)) h
