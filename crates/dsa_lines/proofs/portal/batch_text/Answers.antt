use Rattle.std.proofs.Common.{sym, arith}
use Rattle.dsa_lines.proofs.PortalLemmas.{batch_is}
use Rattle.dsa_lines.proofs.portal.batch_text.Goals as goal

pub returns : goal.returns
returns c =
    rw (c.in_ok-push_record.ensures, c.in_ok-line.ensures) (sym (batch_is c.args.count c.args.list_at c.args.record_at (omega arith)))
