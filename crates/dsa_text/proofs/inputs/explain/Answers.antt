use Rattle.std.proofs.Common.{sym}
use Rattle.std.proofs.lemmas.Result.{IfOk-weaker}
use Rattle.dsa_text.specs.Inputs.{names_none}
use Rattle.dsa_text.proofs.Noted.{as_input}
use Rattle.dsa_text.proofs.inputs.explain.Goals as goal

pub returns-in_default : goal.returns-in_default
returns-in_default c = IfOk-weaker c.refused_range.result _ _ (λ a h. names_none (sym c.in_default.ensures) h) c.refused_range.ensures

pub returns : goal.returns
returns c =
    let svg = c.get_flag-svg.ensures in
    let json = c.get_flag-json.ensures in
    let waits = c.get_flag-waits.ensures in
    let all = c.get_flag-all.ensures in
    as_input c.explain_said.result c.args.matches.now c.args.input.now c.in-Some.range c.get_flag-svg.result c.get_flag-json.result c.get_flag-waits.result c.get_flag-all.result _
    (sym c.in-Some.ensures)
    (record { set = svg.value; clear = svg.other; absent = svg.none }) (record { set = json.value; clear = json.other; absent = json.none })
    (record { set = waits.value; clear = waits.other; absent = waits.none }) (record { set = all.value; clear = all.other; absent = all.none }) c.form_of.ensures c.explain_said.ensures
