use Rattle.std.proofs.Common.{subst}
use Rattle.dsa_text.specs.declared.taken.Content.{Content}
use Rattle.dsa_text.specs.Inputs.{ExplainsOperations}
use Rattle.dsa_text.proofs.Noted.{operations_noted}
use Rattle.dsa_text.proofs.inputs.explain_taken.Goals as goal

pub returns : goal.returns
returns c =
    operations_noted c.noted.result _ c.args.matches.now c.args.bytes.now c.args.form c.in_ok-answer.answer c.noted.ensures.text c.noted.ensures.status
    (subst (λ (content : Content). ExplainsOperations content c.args.matches.now c.args.bytes.now c.args.form c.in_ok-answer.answer)
    c.content_in-content.ensures c.in_ok-answer.ensures)
