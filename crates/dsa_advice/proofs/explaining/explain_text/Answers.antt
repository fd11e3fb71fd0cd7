use Rattle.std.proofs.Common.{ℕ, Bool, List, map, ap, subst, ◌∙◌}
use Rattle.std.proofs.lemmas.Result.{IfOk-weaker}
use Rattle.dsa_lines.specs.declared.text_list.OperationLine.{OperationLine}
use Rattle.dsa_lines.specs.Barriers.{barriers_of}
use Rattle.dsa_lines.specs.TextLists.{line_shown}
use Rattle.dsa_lines.specs.Texts.{lines_of}
use Rattle.dsa_advice.specs.Comments.{names_in}
use Rattle.dsa_advice.specs.Explained.{ExplainsOperations, is_assembled, is_refused_text}
use Rattle.dsa_advice.proofs.explaining.explain_text.Goals as goal

pub returns-in-Ok : goal.returns-in-Ok
returns-in-Ok c =
    let read = c.in-Ok.read in
    let os = read.list.entries.items in
    let lines = lines_of c.args.text.now in
    let names = ap (λ (ls : List OperationLine). names_in (map line_shown ls)) c.deref.ensures.value ∙ ap names_in c.in-Ok.ensures.lines in
    IfOk-weaker c.explain_operations.result _ _ (λ a h.
    is_assembled os c.in-Ok.ensures.spelled read.list.one_owner
    (subst (λ (ns : List (List ℕ)). ExplainsOperations os (barriers_of c.args.keep_fences lines) ns c.args.settings.now c.args.form a) names
    (subst (λ (bs : List Bool). ExplainsOperations os bs (names_in (map line_shown c.deref.result.now)) c.args.settings.now c.args.form a) c.in-Ok.ensures.barriers h)))
    c.explain_operations.ensures

pub returns-in-Err : goal.returns-in-Err
returns-in-Err c =
    IfOk-weaker c.text_fault.result _ _ (λ a h. is_refused_text c.in-Err.fault c.in-Err.ensures.fault h) c.text_fault.ensures
