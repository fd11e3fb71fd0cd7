use Rattle.std.proofs.Common.{subst}
use Rattle.std.specs.Prelude.{string_bytes}
use Rattle.dsa_calls.specs.declared.fault.PlanFault.{PlanFault}
use Rattle.dsa_advice.specs.Refusals.{NamesCause}
use Rattle.dsa_advice.proofs.Refused.{names_last}
use Rattle.dsa_advice.proofs.messages.line_message.Goals as goal

pub returns : goal.returns
returns c =
    subst (λ (f : PlanFault). NamesCause f (string_bytes c.push_name.new.text)) c.from.ensures (names_last c.from.result _ _ c.in_ok-push_name.ensures)
