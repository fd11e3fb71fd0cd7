use Rattle.std.proofs.Common.{ap, ◌∙◌}
use Rattle.std.specs.Prelude.{string_bytes}
use Rattle.std.proofs.lemmas.Result.{IfOk-weaker}
use Rattle.dsa_text.specs.Disassembled.{is_listed, is_refused}
use Rattle.dsa_text.proofs.disassembling.disassemble_list.Goals as goal

pub returns-in-Ok : goal.returns-in-Ok
returns-in-Ok c =
    let (os, spelled, one, text) = c.in-Ok.ensures.answer in
    is_listed os spelled one c.done.ensures.status (ap string_bytes c.done.ensures.text ∙ text)

pub returns-in-Err : goal.returns-in-Err
returns-in-Err c =
    IfOk-weaker c.refused_list.result _ _ (λ a x. is_refused c.in-Err.fault c.in-Err.ensures.fault x) c.refused_list.ensures
