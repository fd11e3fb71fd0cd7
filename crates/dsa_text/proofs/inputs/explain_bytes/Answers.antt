use Rattle.std.proofs.Common.{sym, subst, ◌∙◌}
use Rattle.std.proofs.lemmas.Result.{IfOk-weaker}
use Rattle.dsa_calls.specs.declared.fault.PlanFault.TheVariants.{Hex}
use Rattle.dsa_forms.specs.Forms.{SpellsBytes}
use Rattle.dsa_text.specs.Inputs.{are_dumped, are_none, are_own}
use Rattle.dsa_text.proofs.Noted.{refusal_noted}
use Rattle.dsa_text.proofs.inputs.explain_bytes.Goals as goal

pub returns-then-is_binary : goal.returns-then-is_binary
returns-then-is_binary c =
    IfOk-weaker c.explain_taken.result _ _ (λ a h. are_own (sym c.is_binary.ensures ∙ c.if-is_binary.true) h) c.explain_taken.ensures

pub returns-in-Ok : goal.returns-in-Ok
returns-in-Ok c =
    let given = rw c.in-Ok.is at c.in_ok-bytes.ensures in
    IfOk-weaker c.explain_taken-in-Ok.result _ _
    (λ a h. are_dumped c.deref.result.now (sym c.is_binary.ensures ∙ c.if-is_binary.false) (subst (SpellsBytes c.args.input.now) (sym c.deref.ensures.value) given) h)
    c.explain_taken-in-Ok.ensures

pub returns-in_ok-taken_note-in-Err : goal.returns-in_ok-taken_note-in-Err
returns-in_ok-taken_note-in-Err c =
    let given = rw c.in-Err.is at c.in_ok-bytes.ensures in
    IfOk-weaker c.noted.result _ _ (λ a h. are_none (sym c.is_binary.ensures ∙ c.if-is_binary.false) given.0 h)
    (refusal_noted c.noted.result Hex c.in-Err.refusal c.noted.ensures.text c.noted.ensures.status given.1)
