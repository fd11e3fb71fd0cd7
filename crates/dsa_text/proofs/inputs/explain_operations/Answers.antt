use Rattle.std.proofs.lemmas.Result.{IfOk-weaker}
use Rattle.dsa_text.specs.Inputs.{spells_none, spells_settings}
use Rattle.dsa_text.proofs.inputs.explain_operations.Goals as goal

pub returns-in-Some : goal.returns-in-Some
returns-in-Some c =
    let given = rw c.in-Some.is at c.in_ok-settings.ensures in
    let keep = c.get_flag-keep_fences.ensures in
    IfOk-weaker c.explain_content.result _ _ (λ a h.
    spells_settings c.settings_words-words.result c.in-Some.settings c.get_flag-keep_fences.result c.settings_words-words.ensures given
    (record { set = keep.value; clear = keep.other; absent = keep.none }) h) c.explain_content.ensures

pub returns-in-None : goal.returns-in-None
returns-in-None c =
    let given = rw c.in-None.is at c.in_ok-settings.ensures in
    IfOk-weaker c.refused_settings.result _ _ (λ a h. spells_none c.settings_words-words.result c.settings_words-words.ensures given h) c.refused_settings.ensures
