use Rattle.std.proofs.Common.{◌≡◌, map, take}
use Rattle.serde_json.specs.View.{view}
use Rattle.dsa_explain.specs.Document.{group_value}
use Rattle.dsa_explain.proofs.document.groups_json.Given as goal

abbrev pub invariant-loop-group : goal.invariant-loop-group
invariant-loop-group l = map view l.values.items ≡ map group_value (take l.group-index l.groups)
