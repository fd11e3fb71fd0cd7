use Rattle.std.proofs.Common.{sym, ap, ◌∙◌, true, false}
use Rattle.dsa_checksum.specs.Checksum.{bits_of, bits_value, value_bits}
use Rattle.dsa_checksum.proofs.Going.{register_bits, register_value}
use Rattle.dsa_checksum.proofs.register.turned.Goals as goal

pub returns-then-variant-clause-bits : goal.returns-then-variant-clause-bits
returns-then-variant-clause-bits c =
    ap (bits_of 32) c.reverse_bits.ensures ∙ register_bits true c.args.value c.ranges.value.fits
    ∙ ap (λ x. value_bits x c.args.value) (sym c.if-variant.true)

pub returns-then-variant-clause-value : goal.returns-then-variant-clause-value
returns-then-variant-clause-value c =
    c.reverse_bits.ensures ∙ register_value true c.args.value c.ranges.value.fits
    ∙ ap (λ x. bits_value x (bits_of 32 c.args.value)) (sym c.if-variant.true)

pub returns-else-variant-clause-bits : goal.returns-else-variant-clause-bits
returns-else-variant-clause-bits c =
    register_bits false c.args.value c.ranges.value.fits ∙ ap (λ x. value_bits x c.args.value) (sym c.if-variant.false)

pub returns-else-variant-clause-value : goal.returns-else-variant-clause-value
returns-else-variant-clause-value c =
    register_value false c.args.value c.ranges.value.fits
    ∙ ap (λ x. bits_value x (bits_of 32 c.args.value)) (sym c.if-variant.false)
