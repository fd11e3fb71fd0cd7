use Rattle.std.proofs.Common.{inr, List, [], Err, Ok, map, refl, subst}
use Rattle.std.proofs.lemmas.Result.{IfOk-weaker}
use Rattle.dsa_descriptor.specs.declared.descriptor.Descriptor.{Descriptor}
use Rattle.dsa_descriptor.specs.Descriptors.{fields}
use Rattle.dsa_calls.specs.Judge.{JudgesPieces}
use Rattle.dsa_calls.proofs.JudgedOnce.{one_judged_pieces, plain_judged}
use Rattle.dsa_advice.specs.Explained.{is_refused_judge, is_judged}
use Rattle.dsa_explain.specs.Explained.{CanBeExplained}
use Rattle.dsa_operations.specs.declared.operation.Operation.TheVariants as operation
use Rattle.dsa_advice.proofs.Answered.{judged_can, same_cause}
use Rattle.dsa_advice.proofs.given_plan.explain_pieces.Goals as goal
use Rattle.dsa_advice.proofs.given_plan.explain_pieces.Goals.{After-answer_judged, After-refuse_judged}

said_ok : (c : After-answer_judged) → JudgesPieces (map fields c.args.list.now.descriptors.items) c.args.plan.now c.args.settings.now (Ok c.in-Ok.cost)
said_ok c =
    subst (λ (ds : List Descriptor). JudgesPieces (map fields ds) c.args.plan.now c.args.settings.now (Ok c.in-Ok.cost)) c.deref.ensures.value
    (plain_judged c.deref.result.now c.args.plan.now c.args.settings.now (Ok c.in-Ok.cost) c.in-Ok.ensures)

said_err : (c : After-refuse_judged) → JudgesPieces (map fields c.args.list.now.descriptors.items) c.args.plan.now c.args.settings.now (Err c.in-Err.fault)
said_err c =
    subst (λ (ds : List Descriptor). JudgesPieces (map fields ds) c.args.plan.now c.args.settings.now (Err c.in-Err.fault)) c.deref.ensures.value
    (plain_judged c.deref.result.now c.args.plan.now c.args.settings.now (Err c.in-Err.fault) c.in-Err.ensures)

pub returns-in-Ok-clause-answer : goal.returns-in-Ok-clause-answer
returns-in-Ok-clause-answer c = λ bytes listed.
    IfOk-weaker c.answer_judged.result _ _ (λ a answered. is_judged c.in-Ok.cost c.args.list.now.descriptors.items listed (said_ok c) answered) c.answer_judged.ensures

pub returns-in-Ok-clause-refused : goal.returns-in-Ok-clause-refused
returns-in-Ok-clause-refused c = λ fault judges.
    let same = one_judged_pieces (map fields c.args.list.now.descriptors.items) c.args.plan.now c.args.settings.now (Ok c.in-Ok.cost) (Err fault) (said_ok c) judges in
    absurd cc

pub returns-in-Err-clause-answer : goal.returns-in-Err-clause-answer
returns-in-Err-clause-answer c = λ bytes listed.
    IfOk-weaker c.refuse_judged.result _ _ (λ a h. is_refused_judge c.in-Err.fault (inr (inr (c.args.list.now.descriptors.items, listed, said_err c))) h) c.refuse_judged.ensures

pub returns-in-Err-clause-refused : goal.returns-in-Err-clause-refused
returns-in-Err-clause-refused c = λ fault judges.
    same_cause c.refuse_judged.result c.in-Err.fault fault (Err c.in-Err.fault) (Err fault)
    (one_judged_pieces (map fields c.args.list.now.descriptors.items) c.args.plan.now c.args.settings.now (Err c.in-Err.fault) (Err fault) (said_err c) judges)
    refl refl c.refuse_judged.ensures

pub answer_judged-requires-clause-can : goal.answer_judged-requires-clause-can
answer_judged-requires-clause-can c =
    subst (λ (ds : List Descriptor). CanBeExplained c.args.settings.now (map operation.Descriptor ds) [] c.args.plan.now) c.deref.ensures.value
    (judged_can c.deref.result.now c.args.plan.now c.args.settings.now c.in-Ok.cost c.in-Ok.ensures)
