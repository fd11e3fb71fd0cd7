use Rattle.dsa_audit.specs.Members.{PossibleConflict}
use Rattle.dsa_audit.proofs.Held.{freed}
use Rattle.dsa_audit.proofs.audit.assumptions_free.Goals as goal

pub returns : goal.returns
returns c members fallible visible fallible' visible' held h k k' uses uses' fewer_fail fewer_show reduced other =
    freed (PossibleConflict members) fallible visible fallible' visible' held h k k' uses uses' fewer_fail fewer_show reduced other
