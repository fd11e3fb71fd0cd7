use Rattle.std.proofs.Common.{ℕ, List, [], ◌++◌, ap, ◌∙◌}
use Rattle.serde_json.specs.Data.{string}
use Rattle.serde_json.specs.Written.{compact_text}
use Rattle.hex.specs.Hex.{encode_lower}
use Rattle.dsa_report.proofs.Arrays.{next_added, array_added}
use Rattle.dsa_report.proofs.compact.push_records.Goals as goal

pub loop-record-preserved : goal.loop-record-preserved
loop-record-preserved c =
    let comma = c.push-in-loop-record.new.self.items in
    let bytes = ap (λ (t : List ℕ). comma ++ compact_text (string (encode_lower t))) c.as_slice-in-loop-record.ensures in
    next_added (λ bytes. string (encode_lower bytes)) c.in-Some.rest.now c.loop-record.record-index [] c.loop-record.line.items comma c.push_bytes-in-loop-record.new.line.items _
    c.loop-record-test.true c.in_ok-push-2.ensures.items (c.in_ok-push_bytes-2.ensures ∙ bytes) c.loop-record.invariant

pub returns : goal.returns
returns c =
    let bracket = c.push.new.self.items in
    let bytes = ap (λ (t : List ℕ). bracket ++ compact_text (string (encode_lower t))) c.as_slice.ensures in
    array_added (λ bytes. string (encode_lower bytes)) c.in-Some.first.now c.in-Some.rest.now c.args.records.now c.args.line.now.items bracket c.push_bytes.new.line.items
    c.loop-record.line.items c.push-2.new.self.items c.loop-record.record-index c.in-Some.ensures.cases.0 c.in_ok-push.ensures.items (c.in_ok-push_bytes.ensures ∙ bytes)
    c.loop-record-test.false c.loop-record.invariant c.in_ok-push-3.ensures.items
