use Rattle.std.proofs.Common.{sym, ◌∙◌}
use Rattle.std.proofs.lemmas.Result.{IfOk-weaker}
use Rattle.dsa_text.proofs.Settled.{settled}
use Rattle.dsa_text.proofs.auditing.options_in.Goals as goal

pub returns-in-Some-awaited_in : goal.returns-in-Some-awaited_in
returns-in-Some-awaited_in c =
    IfOk-weaker c.options_denying.result _ _
    (settled c.args.matches.now c.args.given c.in-Some.denied c.in-Some-awaited_in.awaited (sym c.in_ok-denied.ensures ∙ c.in-Some.is) (sym c.awaited_in.ensures ∙ c.in-Some-awaited_in.is))
    c.options_denying.ensures
