use Rattle.std.proofs.lemmas.Result.{IfOk-weaker}
use Rattle.dsa_lists.specs.ReadLists.{planned_pieces_of}
use Rattle.dsa_advice.specs.Comments.{names_from}
use Rattle.dsa_advice.specs.Explained.{is_planned}
use Rattle.dsa_advice.proofs.Answered.{operations_refused}
use Rattle.dsa_advice.proofs.explaining.explain_operations.Goals as goal

pub returns-in-Ok : goal.returns-in-Ok
returns-in-Ok c =
    IfOk-weaker c.answer_with_warnings.result _ _ (λ a h. is_planned (planned_pieces_of c.in-Ok.planned) c.in-Ok.ensures.answer h) c.answer_with_warnings.ensures

pub returns-in-Err : goal.returns-in-Err
returns-in-Err c =
    let list = c.args.list.now in
    operations_refused list.entries.items list.barriers.items (names_from c.args.source) c.args.settings.now c.args.form c.in-Err.fault c.refuse_unplanned.result c.in-Err.ensures.answer c.refuse_unplanned.ensures

pub answer_with_warnings-requires : goal.answer_with_warnings-requires
answer_with_warnings-requires c = record { few = c.in-Ok.ensures.few; legal = c.in-Ok.ensures.legal }
