use Rattle.std.proofs.Common.{List, Bool, Ok, Err, sym, subst}
use Rattle.std.proofs.lemmas.Result.{err_from_is_err_and}
use Rattle.dsa_descriptor.specs.declared.descriptor.Descriptor.{Descriptor}
use Rattle.dsa_calls.specs.Planned.{submission_of}
use Rattle.dsa_calls.specs.Fenced.{AreFencedPieces, PlansFenced}
use Rattle.dsa_calls.proofs.FencedPlans.{one_fenced_plan, fenced_plan_is_least, only_answer, pieces_planned}
use Rattle.dsa_calls.proofs.planning.plan_fenced_list.Goals as goal
use Rattle.dsa_calls.proofs.planning.plan_fenced_list.Goals.{In_ok-planned}

pub returns-in_err-marked-clause-only : goal.returns-in_err-marked-clause-only
returns-in_err-marked-clause-only c =
    let p = err_from_is_err_and c.from_residual.result c.from_residual.ensures.1 in
    rw (p.1, p.2) (only_answer c.args.list.now c.args.settings.now (Err c.in_err-marked.field-0.0) c.in_err-marked.ensures.fault)

are : (c : In_ok-planned) → AreFencedPieces c.args.list.now c.args.settings.now c.in_ok-planned.planned.pieces.items c.in_ok-marked.marked.barriers.items
are c = subst (λ (ds : List Descriptor). AreFencedPieces c.args.list.now c.args.settings.now ds c.in_ok-marked.marked.barriers.items) (sym c.in_ok-planned.ensures.same) c.in_ok-marked.ensures.found

plans : (c : In_ok-planned) → PlansFenced c.args.list.now c.args.settings.now (Ok (submission_of c.in_ok-planned.planned))
plans c = pieces_planned c.args.list.now c.args.settings.now (submission_of c.in_ok-planned.planned) c.in_ok-marked.marked.barriers.items (are c) c.in_ok-planned.ensures.planned

pub returns-clause-answer : goal.returns-clause-answer
returns-clause-answer c = plans c

pub returns-clause-only : goal.returns-clause-only
returns-clause-only c = λ outcome says. one_fenced_plan c.args.list.now c.args.settings.now outcome (Ok (submission_of c.in_ok-planned.planned)) says (plans c)

pub returns-clause-least : goal.returns-clause-least
returns-clause-least c = fenced_plan_is_least c.args.list.now c.args.settings.now (submission_of c.in_ok-planned.planned) (plans c)

pub returns-clause-barriers : goal.returns-clause-barriers
returns-clause-barriers c =
    subst (λ (marks : List Bool). AreFencedPieces c.args.list.now c.args.settings.now c.in_ok-planned.planned.pieces.items marks) (sym c.in_ok-planned.ensures.barriers) (are c)
