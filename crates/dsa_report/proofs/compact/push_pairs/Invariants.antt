use Rattle.std.proofs.Common.{◌≡◌, ◌++◌, true, drop, map}
use Rattle.serde_json.specs.View.{items_of}
use Rattle.serde_json.specs.Written.{items_text}
use Rattle.dsa_cert.specs.Document.{pair_value}
use Rattle.dsa_report.proofs.compact.push_pairs.Given as goal

abbrev pub invariant-loop-pair : goal.invariant-loop-pair
invariant-loop-pair l = l.line.items ++ items_text true (items_of (map pair_value (drop l.pair-index l.rest))) ≡ l.initial.line.items ++ items_text true (items_of (map pair_value l.rest))
