use Rattle.std.proofs.Common.{sym, arith}
use Rattle.dsa_lines.proofs.RoundTrip.{fill_is}
use Rattle.dsa_lines.proofs.writing.fill_text.Goals as goal

pub returns : goal.returns
returns c =
    rw (c.in_ok-push_size.ensures, c.in_ok-push_pattern.ensures, c.in_ok-line.ensures) (sym (fill_is c.args.pattern c.args.dst c.args.size (omega arith)))
