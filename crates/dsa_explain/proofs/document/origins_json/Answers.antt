use Rattle.std.proofs.Common.{◌≤◌, length, map, ap, arith}
use Rattle.serde_json.specs.View.{view}
use Rattle.dsa_cert.proofs.Spelled.{all_written, written_more}
use Rattle.dsa_explain.specs.Document.{origin_value}
use Rattle.dsa_explain.proofs.document.origins_json.Goals as goal

pub loop-origin-init : goal.loop-origin-init
loop-origin-init c = ap (map view) c.in_ok-values.ensures.items

pub loop-origin-preserved : goal.loop-origin-preserved
loop-origin-preserved c =
    rw c.in_ok-push.ensures.items
    (written_more origin_value c.loop-origin.values.items c.args.origins.now c.loop-origin.origin-index c.in_ok-origin_json.field-0 (record { operation = 0; piece = 0; pieces = 0 }) c.loop-origin-test.true c.loop-origin.invariant c.in_ok-origin_json.ensures)

pub returns : goal.returns
returns c =
    let at_end : length c.args.origins.now ≤ c.loop-origin.origin-index = omega arith in
    all_written origin_value c.loop-origin.values c.args.origins.now c.loop-origin.origin-index at_end c.loop-origin.invariant
