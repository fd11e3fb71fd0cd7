use Rattle.std.proofs.Common.{Bool, List, Ok, Err, map, sym, subst, ◌∙◌}
use Rattle.std.proofs.lemmas.Result.{err_from_is_err_and}
use Rattle.dsa_descriptor.specs.declared.descriptor.Descriptor.{Descriptor}
use Rattle.dsa_descriptor.specs.Descriptors.{fields}
use Rattle.dsa_ranges.specs.Ranges.{ConflictAt}
use Rattle.dsa_calls.specs.declared.fault.PlanFault.{PlanFault}
use Rattle.dsa_settings.specs.Barriers.{WithBarriers}
use Rattle.dsa_calls.specs.Lists.{OrMemory}
use Rattle.dsa_calls.specs.Planned.{Plans, ArePiecesOf, IsSubmissionOfPiecesBy, submission_of}
use Rattle.dsa_calls.proofs.Over.{only_outcome}
use Rattle.dsa_calls.proofs.Submissions.{one_planned, whole_submission, planned_is_least_and_shown}
use Rattle.dsa_calls.proofs.planning.plan_list.Goals as goal

pub returns-in_err-pieces-clause-only : goal.returns-in_err-pieces-clause-only
returns-in_err-pieces-clause-only c =
    let p = err_from_is_err_and c.from_residual.result c.from_residual.ensures.1 in
    let told = subst (λ (f : PlanFault). OrMemory submission_of (Plans c.args.list.now c.args.settings.now) (Err f)) (sym p.2) c.in_err-pieces.ensures.split in
    rw p.1 (only_outcome submission_of (Plans c.args.list.now c.args.settings.now) (one_planned c.args.list.now c.args.settings.now) (Err p.0) told)

plans : (c : goal.In_ok-planned) → Plans c.args.list.now c.args.settings.now (Ok (submission_of c.in_ok-planned.planned))
unfolding WithBarriers
plans c =
    let s = c.args.settings.now in
    let p = submission_of c.in_ok-planned.planned in
    let pieces = subst (λ (ds : List Descriptor). ArePiecesOf s c.args.list.now ds) (sym c.in_ok-planned.ensures.same) c.in_ok-pieces.ensures.split in
    let plain = subst (λ (marks : List Bool). IsSubmissionOfPiecesBy (WithBarriers (ConflictAt (map fields p.pieces)) marks) s p) c.in_ok-pieces.ensures.none c.in_ok-planned.ensures.planned in
    whole_submission c.args.list.now s p pieces plain

pub returns-clause-only : goal.returns-clause-only
returns-clause-only c o says = one_planned c.args.list.now c.args.settings.now o (Ok (submission_of c.in_ok-planned.planned)) says (plans c)

pub returns-clause-least : goal.returns-clause-least
returns-clause-least c = (planned_is_least_and_shown c.args.list.now c.args.settings.now (submission_of c.in_ok-planned.planned) (plans c)).least

pub returns-clause-certificate_checks : goal.returns-clause-certificate_checks
returns-clause-certificate_checks c = (planned_is_least_and_shown c.args.list.now c.args.settings.now (submission_of c.in_ok-planned.planned) (plans c)).shown

pub returns-clause-certificate_good : goal.returns-clause-certificate_good
returns-clause-certificate_good c = (planned_is_least_and_shown c.args.list.now c.args.settings.now (submission_of c.in_ok-planned.planned) (plans c)).good

pub returns-clause-answer : goal.returns-clause-answer
returns-clause-answer c = plans c

pub returns-clause-none : goal.returns-clause-none
returns-clause-none c = c.in_ok-planned.ensures.barriers ∙ c.in_ok-pieces.ensures.none
