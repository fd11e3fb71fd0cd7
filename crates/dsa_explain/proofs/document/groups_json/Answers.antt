use Rattle.std.proofs.Common.{◌≤◌, length, map, ap, arith}
use Rattle.serde_json.specs.View.{view}
use Rattle.dsa_cert.proofs.Spelled.{all_written, written_more}
use Rattle.dsa_explain.specs.Document.{group_value}
use Rattle.dsa_explain.proofs.document.groups_json.Goals as goal

pub loop-group-init : goal.loop-group-init
loop-group-init c = ap (map view) c.in_ok-values.ensures.items

pub loop-group-preserved : goal.loop-group-preserved
loop-group-preserved c =
    rw c.in_ok-push.ensures.items
    (written_more group_value c.loop-group.values.items c.args.groups.now c.loop-group.group-index c.in_ok-group_json.field-0 (record { size = 0; fences = 0; cost = 0 }) c.loop-group-test.true c.loop-group.invariant c.in_ok-group_json.ensures)

pub returns : goal.returns
returns c =
    let at_end : length c.args.groups.now ≤ c.loop-group.group-index = omega arith in
    all_written group_value c.loop-group.values c.args.groups.now c.loop-group.group-index at_end c.loop-group.invariant
