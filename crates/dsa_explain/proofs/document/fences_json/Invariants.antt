use Rattle.std.proofs.Common.{◌≡◌, map, take}
use Rattle.serde_json.specs.View.{view}
use Rattle.dsa_explain.specs.Document.{fence_value}
use Rattle.dsa_explain.proofs.document.fences_json.Given as goal

abbrev pub invariant-loop-fence : goal.invariant-loop-fence
invariant-loop-fence l = map view l.values.items ≡ map (fence_value l.pieces) (take l.fence-index l.fences)
