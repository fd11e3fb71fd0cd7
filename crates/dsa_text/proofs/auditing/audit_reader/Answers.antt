use Rattle.dsa_text.proofs.Settled.{read_with}
use Rattle.dsa_text.proofs.auditing.audit_reader.Goals as goal

pub returns-in-Ok : goal.returns-in-Ok
returns-in-Ok g c none =
    let settle = rw c.in-Ok.is at c.in_ok-settings.ensures in
    read_with c.args.matches.now c.args.given c.in-Ok.options (g.R.Read.remaining c.args.reader.now) (g.R.Read.remaining c.audit_read.new.reader) c.audit_read.result none settle c.audit_read.ensures
