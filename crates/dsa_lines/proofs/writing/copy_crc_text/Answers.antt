use Rattle.std.proofs.Common.{sym, arith}
use Rattle.dsa_lines.proofs.RoundTrip.{copy_crc_is}
use Rattle.dsa_lines.proofs.writing.copy_crc_text.Goals as goal

pub returns : goal.returns
returns c = rw (c.in_ok-push_seed.ensures, c.in_ok-push_size.ensures, c.in_ok-line.ensures) (sym (copy_crc_is c.args.src c.args.dst c.args.size c.args.seed (omega arith)))
