use Rattle.std.proofs.Common.{◌≤◌, length, map, ap, arith}
use Rattle.serde_json.specs.View.{view}
use Rattle.dsa_cert.proofs.Spelled.{all_written, written_more}
use Rattle.dsa_explain.specs.Document.{reason_value}
use Rattle.dsa_ranges.specs.declared.hazards.HazardKind.TheVariants.{ReadAfterWrite}
use Rattle.dsa_explain.proofs.document.reasons_json.Goals as goal

pub loop-reason-init : goal.loop-reason-init
loop-reason-init c = ap (map view) c.in_ok-values.ensures.items

pub loop-reason-preserved : goal.loop-reason-preserved
loop-reason-preserved c =
    rw c.in_ok-push.ensures.items
    (written_more (reason_value c.args.pieces.now) c.loop-reason.values.items c.args.reasons.now c.loop-reason.reason-index c.in_ok-reason_json.field-0 (record { earlier = 0; later = 0; hazard = record { address = 0; kind = ReadAfterWrite } }) c.loop-reason-test.true c.loop-reason.invariant c.in_ok-reason_json.ensures)

pub returns : goal.returns
returns c =
    let at_end : length c.args.reasons.now ≤ c.loop-reason.reason-index = omega arith in
    all_written (reason_value c.args.pieces.now) c.loop-reason.values c.args.reasons.now c.loop-reason.reason-index at_end c.loop-reason.invariant
