use Rattle.std.proofs.Common.{◌≡◌, ◌++◌, true, drop, map}
use Rattle.serde_json.specs.View.{items_of}
use Rattle.serde_json.specs.Written.{items_text}
use Rattle.serde_json.specs.Data.{string}
use Rattle.hex.specs.Hex.{encode_lower}
use Rattle.dsa_report.proofs.compact.push_records.Given as goal

abbrev pub invariant-loop-record : goal.invariant-loop-record
invariant-loop-record l = l.line.items ++ items_text true (items_of (map (λ bytes. string (encode_lower bytes)) (drop l.record-index l.rest))) ≡ l.initial.line.items ++ items_text true (items_of (map (λ bytes. string (encode_lower bytes)) l.rest))
