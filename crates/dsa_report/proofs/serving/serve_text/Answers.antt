use Rattle.std.proofs.Common.{Some}
use Rattle.dsa_report.proofs.Outcomes.{Answer-given, written_prefix, written_answer, written_refusal}
use Rattle.dsa_report.proofs.serving.serve_text.Goals as goal

pub returns-clause-answered : goal.returns-clause-answered
returns-clause-answered g c =
    let line = Answer-given c.args.text.now c.answer_text-answer.result c.answer_text-answer.ensures in
    written_answer c.args.text.now _ _ c.answer_text-answer.result c.write_outcome.result line c.write_outcome.ensures

pub returns-clause-refused : goal.returns-clause-refused
returns-clause-refused g c =
    let line = Answer-given c.args.text.now c.answer_text-answer.result c.answer_text-answer.ensures in
    written_refusal c.args.text.now _ _ c.answer_text-answer.result c.write_outcome.result line c.write_outcome.ensures

pub returns-clause-write_fault : goal.returns-clause-write_fault
returns-clause-write_fault g c =
    let line = Answer-given c.args.text.now c.answer_text-answer.result c.answer_text-answer.ensures in
    written_prefix (Some c.args.text.now) _ _ c.answer_text-answer.result c.write_outcome.result line c.write_outcome.ensures
