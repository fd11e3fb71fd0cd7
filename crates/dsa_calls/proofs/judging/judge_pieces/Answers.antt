use Rattle.std.proofs.Common.{ℕ, inr, refl, sym, subst, map, arith}
use Rattle.std.proofs.lemmas.List.{length-map}
use Rattle.std.proofs.lemmas.Result.{err_from_is_err_and}
use Rattle.dsa_settings.specs.Barriers.{WithBarriers}
use Rattle.dsa_settings.specs.LegalFaults.{IsFirstLegalFault}
use Rattle.dsa_calls.specs.Judge.{FitTransfer}
use Rattle.dsa_calls.proofs.judging.judge_pieces.Goals as goal

pub returns-in_err-is_legal_with : goal.returns-in_err-is_legal_with
returns-in_err-is_legal_with g c =
    let p = err_from_is_err_and c.from_residual.result c.from_residual.ensures.1 in
    let fault = c.in_err-is_legal_with.field-0.0 in
    let s = c.args.settings.now in
    let sizes = map g.P.Piece.size c.args.pieces.now in
    let count = length-map c.args.pieces.now g.P.Piece.size in
    let first = (c.in_err-is_legal_with.ensures.fault fault).0 refl in
    let here = subst (λ (n : ℕ). IsFirstLegalFault (WithBarriers (g.P.Touching.conflict c.args.pieces.now) c.args.barriers.now) s.greatest_batch n c.args.plan.now fault) (sym count) first in
    let fit = subst (λ (n : ℕ). FitTransfer n sizes) c.greatest_transfer.ensures.value c.in_default.ensures in
    rw p.1 (inr (inr (fault, p.2, omega (arith, count, c.if-pieces-gt-MOST_PIECES.false), fit, here)))
