use Rattle.std.proofs.Common.{◌≡◌, ◌++◌, true, drop, map}
use Rattle.serde_json.specs.View.{items_of}
use Rattle.serde_json.specs.Written.{items_text}
use Rattle.dsa_tokens.specs.Spelled.{whole}
use Rattle.dsa_report.proofs.compact.push_prices.Given as goal

abbrev pub invariant-loop-price : goal.invariant-loop-price
invariant-loop-price l = l.line.items ++ items_text true (items_of (map whole (drop l.price-index l.rest))) ≡ l.initial.line.items ++ items_text true (items_of (map whole l.rest))
