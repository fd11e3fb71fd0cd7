use Rattle.std.proofs.Common.{◌≡◌, map, take}
use Rattle.std.specs.Prelude.{All}
use Rattle.serde_json.specs.View.{view}
use Rattle.dsa_cert.specs.Document.{PairFits, pair_value}
use Rattle.dsa_cert.proofs.document.pairs_of.Given as goal

abbrev pub invariant-loop-item : goal.invariant-loop-item
invariant-loop-item l = record {
  spelled : map view (take l.item-index l.item-items) ≡ map pair_value l.pairs.items;
  fit : All PairFits l.pairs.items;
}
