use Rattle.std.proofs.Common.{get_or, refl, sym, ◌∙◌, arith}
use Rattle.dsa_forms.proofs.Spelled.{form_after, form_here, form_end}
use Rattle.dsa_forms.proofs.forms.form_of.Goals as goal

pub returns-then-not-is_spread : goal.returns-then-not-is_spread
returns-then-not-is_spread c =
    c.form_by.ensures
    ∙ form_here c.args.text.now c.loop-byte.byte-index (get_or c.args.text.now c.loop-byte.byte-index 0) c.loop-byte-test.true refl
    (sym c.is_spread.ensures ∙ c.if-not-is_spread.true) c.loop-byte.invariant

pub loop-byte-preserved : goal.loop-byte-preserved
loop-byte-preserved c =
    form_after c.args.text.now c.loop-byte.byte-index (get_or c.args.text.now c.loop-byte.byte-index 0) c.loop-byte-test.true refl
    (sym c.is_spread.ensures ∙ c.if-not-is_spread.false) c.loop-byte.invariant

pub returns : goal.returns
returns c = form_end c.args.text.now c.loop-byte.byte-index (omega (arith, c.loop-byte-test.false)) c.loop-byte.invariant
