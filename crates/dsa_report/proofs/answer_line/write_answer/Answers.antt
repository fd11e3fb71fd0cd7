use Rattle.hex.specs.Hex.{encode_lower}
use Rattle.dsa_report.proofs.Written.{part_after, part_between, part_last}
use Rattle.dsa_report.proofs.answer_line.write_answer.Goals as goal

pub returns-then-not-write_digits-clause-prefix : goal.returns-then-not-write_digits-clause-prefix
returns-then-not-write_digits-clause-prefix g c =
    let line = c.args.line.now in
    let front = rw c.as_slice.ensures.value at c.if-not-write_line.ensures.whole in
    let part = rw c.as_slice-2.ensures.value at c.if-not-write_digits.ensures.prefix in
    part_between _ _ _ line.front.items (encode_lower line.first.items) _ front part

pub returns-then-not-write_line-2-clause-prefix : goal.returns-then-not-write_line-2-clause-prefix
returns-then-not-write_line-2-clause-prefix g c =
    let line = c.args.line.now in
    let front = rw c.as_slice.ensures.value at c.if-not-write_line.ensures.whole in
    let first = rw c.as_slice-2.ensures.value at c.if-not-write_digits.ensures.whole in
    part_after _ _ _ line.front.items _ front
    (part_between _ _ _ (encode_lower line.first.items) line.middle.now _ first c.if-not-write_line-2.ensures.prefix)

pub returns-then-not-write_digits-2-clause-prefix : goal.returns-then-not-write_digits-2-clause-prefix
returns-then-not-write_digits-2-clause-prefix g c =
    let line = c.args.line.now in
    let front = rw c.as_slice.ensures.value at c.if-not-write_line.ensures.whole in
    let first = rw c.as_slice-2.ensures.value at c.if-not-write_digits.ensures.whole in
    let part = rw c.as_slice-3.ensures.value at c.if-not-write_digits-2.ensures.prefix in
    part_after _ _ _ line.front.items _ front
    (part_after _ _ _ (encode_lower line.first.items) _ first
    (part_between _ _ _ line.middle.now (encode_lower line.second.items) _ c.if-not-write_line-2.ensures.whole part))

pub returns-clause-prefix : goal.returns-clause-prefix
returns-clause-prefix g c =
    let line = c.args.line.now in
    let front = rw c.as_slice.ensures.value at c.if-not-write_line.ensures.whole in
    let first = rw c.as_slice-2.ensures.value at c.if-not-write_digits.ensures.whole in
    let second = rw c.as_slice-3.ensures.value at c.if-not-write_digits-2.ensures.whole in
    part_last _ _ _ line.front.items _ c.write_line-3.result front
    (part_last _ _ _ (encode_lower line.first.items) _ c.write_line-3.result first
    (part_last _ _ _ line.middle.now _ c.write_line-3.result c.if-not-write_line-2.ensures.whole
    (part_last _ _ _ (encode_lower line.second.items) line.end.now c.write_line-3.result second c.write_line-3.ensures.prefix)))
