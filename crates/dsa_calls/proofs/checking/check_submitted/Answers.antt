use Rattle.std.proofs.Common.{List, length, subst}
use Rattle.std.proofs.lemmas.Result.{err_from_is_err_and}
use Rattle.dsa_ranges.specs.Pieces.{kind_of}
use Rattle.dsa_plan.specs.Certificate.{contents}
use Rattle.dsa_calls.specs.Checked.{ChecksPlanBy, ChecksSubmitted}
use Rattle.dsa_calls.proofs.Over.{only_outcome}
use Rattle.dsa_calls.proofs.BytesChecked.{bytes_refused, one_submitted, plan_checked, shown_least}
use Rattle.dsa_calls.proofs.CheckedOnce.{plain_by}
use Rattle.dsa_calls.proofs.checking.check_submitted.Goals as goal
use Rattle.dsa_calls.proofs.checking.check_submitted.Goals.{After-drop-plan-inside}

pub returns-in_err-plan-clause-answer : goal.returns-in_err-plan-clause-answer
returns-in_err-plan-clause-answer g c =
    let p = err_from_is_err_and c.from_residual.result c.from_residual.ensures.1 in
    let kind = kind_of g.P.Entry.spelling g.P.Entry.keeps g.P.Piece.size g.P.Touching.reads g.P.Touching.writes in
    rw p.1 (bytes_refused kind g.P.Touching.conflict c.args.portal.now c.args.staging.now c.args.settings.now (contents c.args.certificate.now) c.in_err-plan.field-0.0 p.0 p.2 c.in_err-plan.ensures.fault)

pub returns-in_err-plan-clause-only : goal.returns-in_err-plan-clause-only
returns-in_err-plan-clause-only g c =
    let kind = kind_of g.P.Entry.spelling g.P.Entry.keeps g.P.Piece.size g.P.Touching.reads g.P.Touching.writes in
    let s = c.args.settings.now in
    let given = contents c.args.certificate.now in
    only_outcome (λ cost. cost) (ChecksSubmitted kind g.P.Touching.conflict c.args.portal.now c.args.staging.now s given)
    (one_submitted _ kind c.are_entries.ensures g.P.Touching.conflict c.args.portal.now c.args.staging.now s given) c.from_residual.result (returns-in_err-plan-clause-answer g c)

pub returns-clause-answer : goal.returns-clause-answer
returns-clause-answer g c =
    let kind = kind_of g.P.Entry.spelling g.P.Entry.keeps g.P.Piece.size g.P.Touching.reads g.P.Touching.writes in
    let s = c.args.settings.now in
    let given = contents c.args.certificate.now in
    let plain = plain_by (g.P.Touching.conflict c.deref.result.now) s (length c.deref.result.now) c.in_ok-plan.plan given c.check_plan.result c.check_plan.ensures in
    let here = subst (λ (ps : List _). ChecksPlanBy (g.P.Touching.conflict ps) s (length ps) c.in_ok-plan.plan given c.check_plan.result) c.deref.ensures.value plain in
    plan_checked kind g.P.Touching.conflict c.args.portal.now c.args.staging.now s given c.in_ok-plan.plan c.in_ok-plan.pieces.items c.check_plan.result c.in_ok-plan.ensures.found here

pub returns-clause-only : goal.returns-clause-only
returns-clause-only g c =
    let kind = kind_of g.P.Entry.spelling g.P.Entry.keeps g.P.Piece.size g.P.Touching.reads g.P.Touching.writes in
    let s = c.args.settings.now in
    let given = contents c.args.certificate.now in
    only_outcome (λ cost. cost) (ChecksSubmitted kind g.P.Touching.conflict c.args.portal.now c.args.staging.now s given)
    (one_submitted _ kind c.are_entries.ensures g.P.Touching.conflict c.args.portal.now c.args.staging.now s given) c.check_plan.result (returns-clause-answer g c)

pub returns-clause-least : goal.returns-clause-least
returns-clause-least g c =
    let kind = kind_of g.P.Entry.spelling g.P.Entry.keeps g.P.Piece.size g.P.Touching.reads g.P.Touching.writes in
    shown_least _ kind c.are_entries.ensures g.P.Touching.conflict c.args.portal.now c.args.staging.now c.args.settings.now (contents c.args.certificate.now) c.check_plan.result (returns-clause-answer g c)
