use Rattle.dsa_text.proofs.WhatIsLeft.{named_refusal}
use Rattle.dsa_text.proofs.resuming.fault_answer.Goals as goal

pub returns-in_ok-message_of-in-Records : goal.returns-in_ok-message_of-in-Records
returns-in_ok-message_of-in-Records c =
    named_refusal c.args.fault c.refused.result c.refused.ensures.status (rw c.refused.ensures.text c.in_ok-message_of-in-Records.ensures) c.in-Records.is
