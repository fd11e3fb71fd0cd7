use Rattle.std.proofs.Common.{◌≤◌, ◌∙◌, length, map, ap, arith}
use Rattle.serde_json.specs.View.{view}
use Rattle.dsa_cert.proofs.Spelled.{all_written, written_more}
use Rattle.dsa_explain.specs.Document.{fence_value}
use Rattle.dsa_explain.proofs.document.fences_json.Goals as goal

pub loop-fence-init : goal.loop-fence-init
loop-fence-init c = ap (map view) c.in_ok-values.ensures.items

pub loop-fence-preserved : goal.loop-fence-preserved
loop-fence-preserved c =
    rw c.in_ok-push.ensures.items
    (written_more (fence_value c.args.pieces.now) c.loop-fence.values.items c.args.fences.now c.loop-fence.fence-index c.in_ok-fence_json.field-0 c.fence-item.result c.loop-fence-test.true c.loop-fence.invariant (c.in_ok-fence_json.ensures ∙ ap (fence_value c.args.pieces.now) c.fence-item.is))

pub returns : goal.returns
returns c =
    let at_end : length c.args.fences.now ≤ c.loop-fence.fence-index = omega arith in
    all_written (fence_value c.args.pieces.now) c.loop-fence.values c.args.fences.now c.loop-fence.fence-index at_end c.loop-fence.invariant
