use Rattle.std.proofs.Common.{get_or, refl, arith}
use Rattle.dsa_forms.specs.Forms.{digits_of}
use Rattle.dsa_forms.proofs.Spelled.{byte_kept, all_kept}
use Rattle.dsa_forms.proofs.forms.digits_of.Goals as goal

pub loop-byte-preserved : goal.loop-byte-preserved
loop-byte-preserved c =
    rw c.next_part-part.ensures (byte_kept c.args.form c.loop-byte.part c.args.text.now (digits_of c.args.form c.args.text.now) c.loop-byte.byte-index
    (get_or c.args.text.now c.loop-byte.byte-index 0) c.loop-byte.digits.items c.push_kept.new.digits.items c.loop-byte-test.true refl c.in_ok-push_kept.ensures c.loop-byte.invariant)

pub returns : goal.returns
returns c =
    all_kept c.args.form c.loop-byte.part c.args.text.now (digits_of c.args.form c.args.text.now) c.loop-byte.byte-index c.loop-byte.digits.items
    (omega (arith, c.loop-byte-test.false)) c.loop-byte.invariant
