use Rattle.dsa_advice.proofs.Refused.{names_more}
use Rattle.dsa_advice.proofs.mistakes.list_mistakes.Goals as goal

pub returns : goal.returns
returns c = names_more _ _ _ _ (names_more _ _ _ _ (names_more _ _ _ _ c.requires c.in_ok-push_str.ensures.bytes) c.in_ok-push_str-2.ensures.bytes) c.in_ok-push_str-3.ensures.bytes
