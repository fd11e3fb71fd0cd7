use Rattle.std.proofs.Common.{◌≡◌, map, take}
use Rattle.std.specs.Prelude.{All}
use Rattle.serde_json.specs.View.{view}
use Rattle.dsa_cert.specs.Document.{PairFits, pair_value}
use Rattle.dsa_cert.proofs.document.pairs_json.Given as goal

abbrev pub invariant-loop-pair : goal.invariant-loop-pair
invariant-loop-pair l = record {
  spelled : map view l.values.items ≡ map pair_value (take l.pair-index l.pairs);
  fit : All PairFits (take l.pair-index l.pairs);
}
