use Rattle.std.proofs.Common.{◌≡◌, ◌++◌, true, drop, map}
use Rattle.serde_json.specs.View.{items_of}
use Rattle.serde_json.specs.Written.{items_text}
use Rattle.dsa_report.specs.Plan.{group_value}
use Rattle.dsa_report.proofs.compact.push_plan.Given as goal

abbrev pub invariant-loop-group : goal.invariant-loop-group
invariant-loop-group l = l.line.items ++ items_text true (items_of (map group_value (drop l.group-index l.rest))) ≡ l.initial.line.items ++ items_text true (items_of (map group_value l.rest))
