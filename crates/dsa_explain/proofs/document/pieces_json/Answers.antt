use Rattle.std.proofs.Common.{◌≤◌, ◌∙◌, length, map, ap, arith}
use Rattle.serde_json.specs.View.{view}
use Rattle.dsa_cert.proofs.Spelled.{all_written, written_more}
use Rattle.dsa_explain.specs.Document.{piece_value}
use Rattle.dsa_explain.proofs.document.pieces_json.Goals as goal

pub loop-piece-init : goal.loop-piece-init
loop-piece-init c = ap (map view) c.in_ok-values.ensures.items

pub loop-piece-preserved : goal.loop-piece-preserved
loop-piece-preserved c =
    rw c.in_ok-push.ensures.items
    (written_more piece_value c.loop-piece.values.items c.args.pieces.now c.loop-piece.piece-index c.in_ok-piece_json.field-0 c.piece-item.result c.loop-piece-test.true c.loop-piece.invariant (c.in_ok-piece_json.ensures ∙ ap piece_value c.piece-item.is))

pub returns : goal.returns
returns c =
    let at_end : length c.args.pieces.now ≤ c.loop-piece.piece-index = omega arith in
    all_written piece_value c.loop-piece.values c.args.pieces.now c.loop-piece.piece-index at_end c.loop-piece.invariant
