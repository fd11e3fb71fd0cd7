use Rattle.std.proofs.Common.{sym, ap, ◌∙◌, ◌+◌, drop}
use Rattle.dsa_checksum.specs.Checksum.{bits_of, bits_value, message_bits, remainder}
use Rattle.dsa_checksum.proofs.Going.{remainder_left, remainder_end}
use Rattle.dsa_checksum.proofs.register.checksum.Goals as goal

pub loop-byte-preserved : goal.loop-byte-preserved
loop-byte-preserved c =
    let x = c.args.variant.bypasses_data_reflection in
    let i = c.loop-byte.byte-index in (
      c.after_byte-register.type_inv,
      ap (λ before. remainder before (message_bits x (drop (i + 1) c.args.bytes.now)))
          (c.after_byte-register.ensures ∙ ap (remainder (bits_of 32 c.loop-byte.register)) c.turned_byte.ensures)
          ∙ remainder_left x c.loop-byte.register c.args.bytes.now i c.loop-byte.invariant.0 c.loop-byte-test.true
          ∙ c.loop-byte.invariant.1,
    )

pub returns : goal.returns
returns c =
    c.turned.ensures.value
    ∙ ap (bits_value c.args.variant.bypasses_inversion)
    (sym
    (remainder_end c.args.variant.bypasses_data_reflection c.loop-byte.register c.args.bytes.now c.loop-byte.byte-index c.loop-byte.invariant.0
    c.loop-byte-test.false)
    ∙ c.loop-byte.invariant.1)
