use Rattle.std.proofs.Common.{◌≡◌, Bool, false, List, ℕ, map, sym, ap, ◌∙◌}
use Rattle.std.specs.List.{list_any}
use Rattle.dsa_descriptor.specs.Fences.{is_fenced, after_first, set_marks}
use Rattle.dsa_descriptor.specs.Lists.{entries}
use Rattle.dsa_descriptor.proofs.Seen.{no_barriers}
use Rattle.dsa_descriptor.proofs.fences.barriers_of.Goals as goal

pub returns-then-not-fenced : goal.returns-then-not-fenced
returns-then-not-fenced c =
    let none : list_any is_fenced (entries c.args.bytes.now) ≡ false = sym c.requires ∙ c.if-not-fenced.true in
    c.new.ensures.items ∙ sym (no_barriers (entries c.args.bytes.now) none)

pub returns : goal.returns
returns c =
    c.kept_marks.ensures ∙ ap (λ (marks : List Bool). set_marks (after_first marks)) c.in_ok-fences.ensures
    ∙ ap (λ (es : List (List ℕ)). set_marks (after_first (map is_fenced es))) c.as_chunks.ensures.front
