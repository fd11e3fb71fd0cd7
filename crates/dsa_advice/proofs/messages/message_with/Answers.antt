use Rattle.dsa_advice.proofs.Refused.{names_last}
use Rattle.dsa_advice.proofs.messages.message_with.Goals as goal

pub returns : goal.returns
returns c = names_last _ _ _ c.in_ok-push_name.ensures
