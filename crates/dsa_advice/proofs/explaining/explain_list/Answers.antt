use Rattle.std.proofs.Common.{Bool, IfOk, List, [], map, ap, subst, ◌∙◌}
use Rattle.std.proofs.lemmas.Result.{IfOk-weaker}
use Rattle.dsa_operations.specs.declared.operation.Operation.{Operation}
use Rattle.dsa_operations.specs.declared.operation.Operation.TheVariants as operation
use Rattle.dsa_advice.specs.Explained.{ExplainsOperations, is_job_list, is_no_job_list}
use Rattle.dsa_advice.proofs.explaining.explain_list.Goals as goal

pub returns-in_ok-operations-in-Ok : goal.returns-in_ok-operations-in-Ok
returns-in_ok-operations-in-Ok c =
    let found = c.in-Ok.ensures.found in
    let made = c.in_ok-operations-in-Ok.ensures in
    let s = c.args.settings.now in
    let bare = subst (λ (bs : List Bool). IfOk c.explain_operations.result (ExplainsOperations c.in_ok-operations-in-Ok.operations.entries.items bs [] s c.args.form)) made.0 c.explain_operations.ensures in
    let shown = subst (λ (os : List Operation). IfOk c.explain_operations.result (ExplainsOperations os [] [] s c.args.form)) (made.1 ∙ ap (map operation.Descriptor) c.deref.ensures.value) bare in
    IfOk-weaker c.explain_operations.result _ _ (λ a h. is_job_list c.in-Ok.descriptors.items (record { spelled = found.0; owner = found.1 }) h) shown

pub returns-in-Err : goal.returns-in-Err
returns-in-Err c = IfOk-weaker c.list_fault.result _ _ (λ a h. is_no_job_list c.in-Err.fault c.in-Err.ensures.fault h) c.list_fault.ensures
