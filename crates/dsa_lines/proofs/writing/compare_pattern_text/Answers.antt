use Rattle.std.proofs.Common.{sym, arith}
use Rattle.dsa_lines.proofs.RoundTrip.{compare_pattern_is}
use Rattle.dsa_lines.proofs.writing.compare_pattern_text.Goals as goal

pub returns : goal.returns
returns c =
    rw (c.in_ok-push_expected.ensures, c.in_ok-push_size.ensures, c.in_ok-push_pattern.ensures, c.in_ok-line.ensures)
    (sym (compare_pattern_is c.args.src c.args.pattern c.args.expected c.args.size (omega arith) (omega arith)))
