use Rattle.std.proofs.Common.{◌∙◌, ap, map, sym}
use Rattle.std.specs.Prelude.{option_map}
use Rattle.dsa_text.specs.Audited.{denied_by, denied_of}
use Rattle.dsa_text.proofs.auditing.denied_in.Goals as goal

pub returns-in_ok-parts_of-in-Some : goal.returns-in_ok-parts_of-in-Some
returns-in_ok-parts_of-in-Some c =
    let words = ap (map (λ word. word.now)) c.deref.ensures.value ∙ c.in_ok-parts_of-in-Some.ensures in
    let value = sym c.get_str.ensures ∙ ap (option_map (λ s. s.now)) c.in-Some.is in
    c.denied_by.ensures ∙ (ap denied_by words ∙ sym (ap denied_of value))
