use Rattle.std.proofs.Common.{sym, arith}
use Rattle.dsa_lines.proofs.RoundTrip.{compare_is}
use Rattle.dsa_lines.proofs.writing.compare_text.Goals as goal

pub returns : goal.returns
returns c =
    rw (c.in_ok-push_expected.ensures, c.in_ok-push_size.ensures, c.in_ok-line.ensures)
    (sym (compare_is c.args.src c.args.src2 c.args.expected c.args.size (omega arith) (omega arith)))
