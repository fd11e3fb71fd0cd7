use Rattle.std.proofs.Common.{ℕ, List, [], ◌∷◌, ◌++◌, get_or, take, sym, ap, subst, ◌∙◌}
use Rattle.std.specs.List.{AllZip}
use Rattle.std.proofs.lemmas.List.{take_more}
use Rattle.dsa_lines.specs.Portals.{Submits, submission_text}
use Rattle.dsa_lines.proofs.PortalLemmas.{each_more, no_portal_text, portal_text_more}
use Rattle.dsa_lines.proofs.portal.text_of_portal.Goals as goal

pub loop-entry-init : goal.loop-entry-init
loop-entry-init c = record { done = []; each = tt; text = c.new-text.ensures.bytes ∙ sym no_portal_text }

pub loop-entry-preserved : goal.loop-entry-preserved
loop-entry-preserved c =
    let i = c.loop-entry.invariant in
    let h = c.in_ok-push_entry.ensures in
    let es = c.as_chunks.result.0.now in
    let n = c.loop-entry.entry-index in
    record {
      done = i.done ++ h.0 ∷ [];
      each = subst (λ (fs : List (List ℕ)). AllZip Submits fs (i.done ++ h.0 ∷ [])) (sym (take_more es n [] c.loop-entry-test.true))
          (each_more (take n es) i.done (get_or es n []) h.0 i.each h.1);
      text = h.2 ∙ ap (λ (t : List ℕ). t ++ (submission_text h.0 ++ 10 ∷ [])) i.text ∙ sym (portal_text_more i.done h.0);
    }
