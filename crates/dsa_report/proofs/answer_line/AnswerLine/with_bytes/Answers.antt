use Rattle.dsa_report.proofs.Kept.{member_kept}
use Rattle.dsa_report.proofs.answer_line.AnswerLine.with_bytes.Goals as goal

pub returns : goal.returns
returns c =
    let plain = rw c.as_slice.ensures.value at c.keeps_digits.ensures in
    member_kept c.args.text.items c.push.new.self.items c.args.bytes.items c.new.result.items plain c.in_ok-push.ensures.items c.new.ensures.items
