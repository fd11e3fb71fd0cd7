use Rattle.std.proofs.Common.{◌≡◌, map, take}
use Rattle.serde_json.specs.View.{view}
use Rattle.dsa_explain.proofs.Names.{spelled_name}
use Rattle.dsa_explain.proofs.document.names_json.Given as goal

abbrev pub invariant-loop-name : goal.invariant-loop-name
invariant-loop-name l = map view l.values.items ≡ map spelled_name (take l.name-index l.names)
