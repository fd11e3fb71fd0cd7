use Rattle.std.proofs.Common.{get_or, refl, sym, ◌∙◌, arith}
use Rattle.dsa_forms.proofs.Begun.{begun_more, begun_gap, begun_colon, begun_none, begun_end}
use Rattle.dsa_forms.proofs.forms.is_word_of_digits.Goals as goal

pub returns-then-is_gap : goal.returns-then-is_gap
returns-then-is_gap c =
    c.is_gap.ensures
    ∙ begun_gap c.loop-byte.seen c.args.text.now c.loop-byte.byte-index (get_or c.args.text.now c.loop-byte.byte-index 0) c.loop-byte-test.true refl
    (sym c.is_digit.ensures ∙ c.if-not-is_digit.true) c.loop-byte.invariant c.if-seen.true
    (sym c.is_gap.ensures ∙ c.if-is_gap.true)

pub returns-else-is_gap : goal.returns-else-is_gap
returns-else-is_gap c =
    begun_colon c.loop-byte.seen c.args.text.now c.loop-byte.byte-index (get_or c.args.text.now c.loop-byte.byte-index 0) c.loop-byte-test.true refl
    (sym c.is_digit.ensures ∙ c.if-not-is_digit.true) c.loop-byte.invariant c.if-seen.true
    (sym c.is_gap.ensures ∙ c.if-is_gap.false)

pub returns-else-seen : goal.returns-else-seen
returns-else-seen c =
    begun_none c.loop-byte.seen c.args.text.now c.loop-byte.byte-index (get_or c.args.text.now c.loop-byte.byte-index 0) c.loop-byte-test.true refl
    (sym c.is_digit.ensures ∙ c.if-not-is_digit.true) c.loop-byte.invariant c.if-seen.false

pub loop-byte-preserved : goal.loop-byte-preserved
loop-byte-preserved c =
    begun_more c.loop-byte.seen c.args.text.now c.loop-byte.byte-index (get_or c.args.text.now c.loop-byte.byte-index 0) c.loop-byte-test.true refl
    (sym c.is_digit.ensures ∙ c.if-not-is_digit.false) c.loop-byte.invariant

pub returns : goal.returns
returns c = begun_end c.loop-byte.seen c.args.text.now c.loop-byte.byte-index (omega (arith, c.loop-byte-test.false)) c.loop-byte.invariant
