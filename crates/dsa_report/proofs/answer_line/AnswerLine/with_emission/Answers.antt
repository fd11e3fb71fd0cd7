use Rattle.dsa_report.proofs.Kept.{emission_kept}
use Rattle.dsa_report.proofs.answer_line.AnswerLine.with_emission.Goals as goal

pub returns : goal.returns
returns c =
    let portal = rw c.as_slice.ensures.value at c.keeps_digits.ensures in
    let staging = rw c.as_slice-2.ensures.value at c.keeps_digits-2.ensures in
    emission_kept c.args.text.items c.push.new.self.items c.args.portal.items c.args.staging.items portal staging c.in_ok-push.ensures.items
