use Rattle.std.proofs.Common.{refl, arith}
use Rattle.dsa_lines.specs.Options.{no_options, or_zero}
use Rattle.dsa_lines.specs.Words.{words_of}
use Rattle.dsa_lines.proofs.FlagLemmas.{line_flags_below}
use Rattle.dsa_lines.proofs.OneLine.{options_fit}
use Rattle.dsa_lines.proofs.reading.read_line.Goals as goal

pub returns-clause-small : goal.returns-clause-small
returns-clause-small c =
    let o = c.in_ok-options.options in
    let fit = options_fit 5 no_options (words_of c.in_ok-record_at.rest.now) o (omega arith, refl, omega arith) c.in_ok-options.ensures in
    (rw c.pasid_or_zero.ensures fit.0.0, rw c.line_flags.ensures (line_flags_below c.in_ok-op.op (or_zero o.flags) o.check fit.0.1))
