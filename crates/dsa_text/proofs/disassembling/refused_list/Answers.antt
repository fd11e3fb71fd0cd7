use Rattle.std.proofs.lemmas.Result.{IfOk-weaker}
use Rattle.dsa_calls.specs.Fault.{list_cause}
use Rattle.dsa_text.proofs.disassembling.refused_list.Goals as goal

pub returns : goal.returns
returns c =
    IfOk-weaker c.with_hint.result _ _ (λ a hinted. hinted (list_cause c.args.fault) c.in_ok-refusal.ensures) c.with_hint.ensures
