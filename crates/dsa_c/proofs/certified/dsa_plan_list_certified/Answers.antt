use Rattle.std.proofs.Common.{length, ap, ◌∙◌, arith}
use Rattle.dsa_lists.specs.Submissions.{operation_submission_of}
use Rattle.dsa_c.proofs.Agreeing.{marks_count}
use Rattle.dsa_c.proofs.Refusing.{as_many}
use Rattle.dsa_c.proofs.certified.dsa_plan_list_certified.Goals as goal

pub put-requires-in-Ok-3 : goal.put-requires-in-Ok-3
put-requires-in-Ok-3 c =
    let found = c.in-Ok.ensures in
    let same = ap length (c.deref-in-Ok-4.ensures.value ∙ found.3) in
    omega (arith, same, marks_count c.in-Ok.answer.planned.plan, as_many c.args.list.now _ (operation_submission_of c.in-Ok.answer.planned) found.0.least, found.2.2)
