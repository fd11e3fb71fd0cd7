use Rattle.std.proofs.Common.{◌≡◌, ◌++◌, true, drop, map}
use Rattle.serde_json.specs.View.{items_of}
use Rattle.serde_json.specs.Written.{items_text}
use Rattle.serde_json.specs.Data.{boolean}
use Rattle.dsa_report.proofs.compact.push_group.Given as goal

abbrev pub invariant-loop-fence : goal.invariant-loop-fence
invariant-loop-fence l = l.line.items ++ items_text true (items_of (map boolean (drop l.fence-index l.rest))) ≡ l.initial.line.items ++ items_text true (items_of (map boolean l.rest))
