use Rattle.std.proofs.Common.{subst, ◌∙◌}
use Rattle.dsa_recording.specs.Inputs.{AnswersInput}
use Rattle.dsa_recording.proofs.reading.audit_whole.Goals as goal

pub returns-then-branch : goal.returns-then-branch
returns-then-branch g c =
    let filled = c.in_ok-fill.ensures in (
      filled.0,
      filled.1,
      filled.3 c.if-branch.true,
      subst (λ input. AnswersInput c.args.options input c.in_ok-audit.field-0) (c.deref.ensures.value ∙ filled.2) c.in_ok-audit.ensures,
    )
