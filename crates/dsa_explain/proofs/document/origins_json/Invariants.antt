use Rattle.std.proofs.Common.{◌≡◌, map, take}
use Rattle.serde_json.specs.View.{view}
use Rattle.dsa_explain.specs.Document.{origin_value}
use Rattle.dsa_explain.proofs.document.origins_json.Given as goal

abbrev pub invariant-loop-origin : goal.invariant-loop-origin
invariant-loop-origin l = map view l.values.items ≡ map origin_value (take l.origin-index l.origins)
