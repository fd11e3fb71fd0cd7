use Rattle.dsa_report.proofs.Kept.{text_alone}
use Rattle.dsa_report.proofs.answer_line.AnswerLine.of_text.Goals as goal

pub returns : goal.returns
returns c = rw (c.new.ensures.items, c.new-2.ensures.items) (text_alone c.args.text.items)
