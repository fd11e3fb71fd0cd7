use Rattle.std.proofs.Common.{Bool, IfOk, List, [], subst}
use Rattle.std.proofs.lemmas.Result.{IfOk-weaker}
use Rattle.dsa_advice.specs.Explained.{ExplainsOperations, is_list, is_no_list}
use Rattle.dsa_advice.proofs.explaining.explain_fenced.Goals as goal

pub returns-in-Ok : goal.returns-in-Ok
returns-in-Ok c =
    let read = c.in-Ok.operations in
    let shown = subst (λ (bs : List Bool). IfOk c.explain_operations.result (ExplainsOperations read.entries.items bs [] c.args.settings.now c.args.form)) c.in-Ok.ensures.barriers c.explain_operations.ensures in
    IfOk-weaker c.explain_operations.result _ _ (λ a h. is_list read.entries.items c.in-Ok.ensures.found read.one_owner h) shown

pub returns-in-Err : goal.returns-in-Err
returns-in-Err c = IfOk-weaker c.list_fault.result _ _ (λ a h. is_no_list c.in-Err.fault c.in-Err.ensures.fault h) c.list_fault.ensures
