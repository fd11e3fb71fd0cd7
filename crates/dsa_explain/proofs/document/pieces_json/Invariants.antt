use Rattle.std.proofs.Common.{◌≡◌, map, take}
use Rattle.serde_json.specs.View.{view}
use Rattle.dsa_explain.specs.Document.{piece_value}
use Rattle.dsa_explain.proofs.document.pieces_json.Given as goal

abbrev pub invariant-loop-piece : goal.invariant-loop-piece
invariant-loop-piece l = map view l.values.items ≡ map piece_value (take l.piece-index l.pieces)
