use Rattle.std.proofs.Common.{sym}
use Rattle.dsa_lines.specs.declared.line.Line.{Line}
use Rattle.dsa_lines.proofs.RoundTrip.{line_by}
use Rattle.dsa_lines.proofs.writing.line_of_fields.Goals as goal

pub returns : goal.returns
returns c =
    let l : Line = c.args.fields.now in
    rw (c.in_ok-push_later.ensures, c.in_ok-line.ensures) (sym (line_by l.op l.pasid l.privileged l.flags l.record_at l.size l.int_handle))
