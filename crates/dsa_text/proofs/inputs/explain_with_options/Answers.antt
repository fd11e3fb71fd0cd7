use Rattle.std.proofs.Common.{◌≡◌, true, false, sym, ◌∙◌}
use Rattle.std.proofs.lemmas.Result.{IfOk-weaker}
use Rattle.dsa_text.specs.Inputs.{has_none, has_options}
use Rattle.dsa_text.proofs.inputs.explain_with_options.Goals as goal

pub returns-then-are_settings_given : goal.returns-then-are_settings_given
returns-then-are_settings_given c =
    IfOk-weaker c.refused_options.result _ _ (λ a h. has_options (c.are_settings_given.ensures.0 c.if-are_settings_given.true) h.0 h.1) c.refused_options.ensures

pub returns : goal.returns
returns c =
    IfOk-weaker c.explain_job_text.result _ _ (λ a h. has_none (λ given.
    let e : true ≡ false = sym (c.are_settings_given.ensures.1 given) ∙ c.if-are_settings_given.false in absurd cc) h)
    c.explain_job_text.ensures
