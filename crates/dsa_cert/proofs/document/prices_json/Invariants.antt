use Rattle.std.proofs.Common.{◌≡◌, map, take}
use Rattle.serde_json.specs.View.{view}
use Rattle.dsa_tokens.specs.Spelled.{whole}
use Rattle.dsa_cert.proofs.document.prices_json.Given as goal

abbrev pub invariant-loop-price : goal.invariant-loop-price
invariant-loop-price l = map view l.values.items ≡ map whole (take l.price-index l.prices)
