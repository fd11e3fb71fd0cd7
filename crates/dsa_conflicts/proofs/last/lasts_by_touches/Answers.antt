use Rattle.std.proofs.Common.{length, subst}
use Rattle.std.specs.Prelude.{IfSome}
use Rattle.std.proofs.lemmas.Result.{IfOk-weaker}
use Rattle.dsa_ranges.specs.Pieces.{PieceConflictAt}
use Rattle.dsa_conflicts.specs.Last.{HasLastsBy}
use Rattle.dsa_conflicts.proofs.Lasts.{lasts_as}
use Rattle.dsa_conflicts.proofs.last.lasts_by_touches.Goals as goal

pub returns-in-Some : goal.returns-in-Some
returns-in-Some g c =
    let ps = c.args.pieces.now in
    let C = PieceConflictAt g.T.Touching.reads g.T.Touching.writes ps in
    let n = length ps in
    let window = c.args.window in
    let known : HasLastsBy C n window c.in-Some.lasts.items = subst (λ o. IfSome o (λ lasts. HasLastsBy C n window lasts.items)) c.in-Some.is c.in_ok-lasts.ensures in
    lasts_as C (g.T.Touching.conflict ps) (λ i j. let h = c.conflict_as_touched.ensures ps i j in (h.1, h.0)) n window c.in-Some.lasts.items known

pub returns-in-None : goal.returns-in-None
returns-in-None g c =
    let ps = c.args.pieces.now in
    let C = PieceConflictAt g.T.Touching.reads g.T.Touching.writes ps in
    let D = g.T.Touching.conflict ps in
    let n = length ps in
    let window = c.args.window in
    IfOk-weaker c.lasts_by_stamps.result (λ lasts. HasLastsBy C n window lasts.items) (λ lasts. HasLastsBy D n window lasts.items)
    (λ lasts known. lasts_as C D (λ i j. let h = c.conflict_as_touched.ensures ps i j in (h.1, h.0)) n window lasts.items known) c.lasts_by_stamps.ensures
