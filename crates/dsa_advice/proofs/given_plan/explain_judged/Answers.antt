use Rattle.std.proofs.Common.{inr, List, Err, sym, subst}
use Rattle.std.proofs.lemmas.Result.{IfOk-weaker}
use Rattle.dsa_descriptor.specs.declared.descriptor.Descriptor.{Descriptor}
use Rattle.dsa_calls.specs.Judge.{Judges, JudgesPieces}
use Rattle.dsa_calls.specs.Lists.{IsListOf}
use Rattle.dsa_calls.proofs.Over.{list_refused, only_outcome, said_of_list}
use Rattle.dsa_calls.proofs.JudgedOnce.{one_judged}
use Rattle.dsa_advice.specs.Explained.{is_refused_judge}
use Rattle.dsa_advice.proofs.Answered.{told_cause}
use Rattle.dsa_advice.proofs.given_plan.explain_judged.Goals as goal

pub returns-in-Ok-clause-answer : goal.returns-in-Ok-clause-answer
returns-in-Ok-clause-answer c =
    let found = c.in-Ok.ensures.found in
    let listed = subst (λ (ds : List Descriptor). IsListOf c.args.list.now ds) (sym c.without_barriers-plain.ensures.same) (record { spelled = found.0; owner = found.1 }) in
    c.explain_pieces.ensures.answer c.args.list.now listed

pub returns-in-Ok-clause-refused : goal.returns-in-Ok-clause-refused
returns-in-Ok-clause-refused c = λ fault judges.
    let found = c.in-Ok.ensures.found in
    let listed = subst (λ (ds : List Descriptor). IsListOf c.args.list.now ds) (sym c.without_barriers-plain.ensures.same) (record { spelled = found.0; owner = found.1 }) in
    let said = said_of_list (λ fs o. JudgesPieces fs c.args.plan.now c.args.settings.now o) c.args.list.now c.without_barriers-plain.result.descriptors.items (Err fault) listed judges in
    IfOk-weaker c.explain_pieces.result _ _ (λ a h. inr h) (c.explain_pieces.ensures.refused fault said)

pub returns-in-Err-clause-answer : goal.returns-in-Err-clause-answer
returns-in-Err-clause-answer c =
    let told = list_refused (λ cost. cost) (λ fs o. JudgesPieces fs c.args.plan.now c.args.settings.now o) c.args.list.now c.in-Err.fault c.from.result c.from.ensures c.in-Err.ensures.fault in
    IfOk-weaker c.fault.result _ _ (λ a h. is_refused_judge c.from.result told h) c.fault.ensures

pub returns-in-Err-clause-refused : goal.returns-in-Err-clause-refused
returns-in-Err-clause-refused c = λ fault judges.
    let told = list_refused (λ cost. cost) (λ fs o. JudgesPieces fs c.args.plan.now c.args.settings.now o) c.args.list.now c.in-Err.fault c.from.result c.from.ensures c.in-Err.ensures.fault in
    told_cause c.fault.result c.from.result fault
    (only_outcome (λ cost. cost) (Judges c.args.list.now c.args.plan.now c.args.settings.now) (one_judged c.args.list.now c.args.plan.now c.args.settings.now) (Err c.from.result) told (Err fault) judges) c.fault.ensures
