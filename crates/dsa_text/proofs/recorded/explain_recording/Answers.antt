use Rattle.std.proofs.Common.{◌≡◌, ◌==◌, ℕ, List, false, Bool, arith, sym, subst, ap, ◌∙◌, string_bytes}
use Rattle.std.proofs.lemmas.Result.{IfOk-weaker}
use Rattle.dsa_advice.specs.declared.answer.Answer.{Answer}
use Rattle.dsa_advice.specs.Explained.{ExplainsText}
use Rattle.dsa_text.specs.Recorded.{is_audited, is_refused_audit}
use Rattle.dsa_text.proofs.recorded.explain_recording.Goals as goal

pub returns-then-listed-eq2 : goal.returns-then-listed-eq2
returns-then-listed-eq2 c =
    is_refused_audit c.in_ok-listed.listed c.in_ok-listed.ensures (grind (arith, c.if-listed-eq2.true)) c.refused.ensures.status c.refused.ensures.text

pub returns : goal.returns
returns c =
    IfOk-weaker c.explain_text.result _ _
    (λ a h. is_audited c.in_ok-listed.listed c.in_ok-listed.ensures (grind (arith, c.if-listed-eq2.false))
    (subst (λ (text : List ℕ). ExplainsText text false c.args.settings.now c.args.form a) c.as_bytes.ensures.value h))
    c.explain_text.ensures
