use Rattle.std.proofs.Common.{sym, ◌∙◌}
use Rattle.dsa_recording.proofs.Inputs.{no_lines}
use Rattle.dsa_recording.proofs.input.bytes_of_lines.Goals as goal

pub returns-in_ok-reason-in-Err-Grammar : goal.returns-in_ok-reason-in-Err-Grammar
returns-in_ok-reason-in-Err-Grammar c =
    let g = c.in-Err-Grammar in (
      c.refused.ensures.refuses,
      no_lines c.args.text.now g.field-0 c.requires
          (λ e. let never = sym g.field-0-is ∙ e in absurd cc) g.ensures,
    )
