use Rattle.std.proofs.Common.{◌≡◌, length, map, rules, sym, ap, ◌∙◌, List, ℕ}
use Rattle.std.specs.Prelude.{None, Option}
use Rattle.std.proofs.Math.ListN.{replicate}
use Rattle.std.proofs.lemmas.List.{length-map}
use Rattle.dsa_descriptor.specs.Descriptors.{fields}
use Rattle.dsa_conflicts.specs.Overlaps.{last_at}
use Rattle.dsa_conflicts.proofs.Overlapped.{none_at}
use Rattle.dsa_conflicts.proofs.Bits.{none_are_lasts}
use Rattle.dsa_conflicts.proofs.last.no_lasts.Goals as goal

pub returns : goal.returns
returns c =
    let fs = map fields c.args.pieces.now in
    let items : c.in_ok-lasts.lasts.items ≡ replicate (length c.args.pieces.now) None = search rules in
    none_are_lasts fs c.args.window c.requires c.in_ok-lasts.lasts.items
    (sym c.in_ok-lasts.lasts.ok.0 ∙ c.in_ok-lasts.ensures.len ∙ sym (length-map c.args.pieces.now fields))
    (λ b. ap (λ (xs : List (Option ℕ)). last_at xs b) items ∙ none_at (length c.args.pieces.now) b)
