use Rattle.std.proofs.Common.{◌≡◌, map, take}
use Rattle.serde_json.specs.View.{view}
use Rattle.dsa_explain.specs.Document.{reason_value}
use Rattle.dsa_explain.proofs.document.reasons_json.Given as goal

abbrev pub invariant-loop-reason : goal.invariant-loop-reason
invariant-loop-reason l = map view l.values.items ≡ map (reason_value l.pieces) (take l.reason-index l.reasons)
