use Rattle.std.proofs.Common.{sym, ap, ◌∙◌}
use Rattle.dsa_checksum.specs.Checksum.{bits_of, byte_bits}
use Rattle.dsa_checksum.proofs.Turned.{reversed_8}
use Rattle.dsa_checksum.proofs.register.turned_byte.Goals as goal

pub returns-then-variant : goal.returns-then-variant
returns-then-variant c =
    ap (bits_of 8) c.reverse_bits.ensures ∙ reversed_8 c.args.byte
    ∙ ap (λ x. byte_bits x c.args.byte) (sym c.if-variant.true)
