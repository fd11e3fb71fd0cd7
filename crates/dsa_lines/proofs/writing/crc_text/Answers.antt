use Rattle.std.proofs.Common.{sym, arith}
use Rattle.dsa_lines.proofs.RoundTrip.{crc_is}
use Rattle.dsa_lines.proofs.writing.crc_text.Goals as goal

pub returns : goal.returns
returns c = rw (c.in_ok-push_seed.ensures, c.in_ok-push_size.ensures, c.in_ok-line.ensures) (sym (crc_is c.args.src c.args.size c.args.seed (omega arith)))
