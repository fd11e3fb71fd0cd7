use Rattle.std.proofs.Common.{◌≡◌, map, take}
use Rattle.serde_json.specs.View.{view}
use Rattle.dsa_tokens.specs.Spelled.{whole}
use Rattle.dsa_cert.proofs.document.prices_of.Given as goal

abbrev pub invariant-loop-item : goal.invariant-loop-item
invariant-loop-item l = map view (take l.item-index l.item-items) ≡ map whole l.prices.items
