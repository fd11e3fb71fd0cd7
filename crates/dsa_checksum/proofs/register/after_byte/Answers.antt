use Rattle.std.proofs.Common.{ap, ◌∙◌, subst, sym, ◌<◌}
use Rattle.dsa_checksum.specs.Checksum.{bits_of, remainder}
use Rattle.dsa_checksum.proofs.Tables.{after_byte_is}
use Rattle.dsa_checksum.proofs.register.after_byte.Goals as goal

pub returns : goal.returns
returns c =
    let fits : c.from.result < 256 = subst (λ n. n < 256) (sym c.from.ensures) c.ranges.byte.fits in
    after_byte_is c.args.register c.from.result c.ranges.register.fits fits
    ∙ ap (λ b. remainder (bits_of 32 c.args.register) (bits_of 8 b)) c.from.ensures
