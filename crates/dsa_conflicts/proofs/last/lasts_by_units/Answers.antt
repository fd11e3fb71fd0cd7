use Rattle.std.proofs.Common.{◌≡◌, List, ℕ, length, rules, ap, ◌∙◌, arith}
use Rattle.std.proofs.lemmas.Grind.{common_steps}
use Rattle.std.specs.Prelude.{None, Option}
use Rattle.std.proofs.Math.ListN.{replicate}
use Rattle.dsa_conflicts.specs.Overlaps.{last_at}
use Rattle.dsa_conflicts.proofs.Overlapped.{none_at}
use Rattle.dsa_conflicts.proofs.last.lasts_by_units.Goals as goal

pub note_by_units-requires-clause-blank : goal.note_by_units-requires-clause-blank
note_by_units-requires-clause-blank c = λ b.
    let count = length c.args.pieces.now in
    let items : c.in_ok-lasts.lasts.items ≡ replicate count None = search rules in
    ap (λ (xs : List (Option ℕ)). last_at xs b) (c.deref_mut.ensures.value ∙ items) ∙ none_at count b

pub returns : goal.returns
returns c = grind (arith, common_steps)
