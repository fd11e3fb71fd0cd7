use Rattle.std.proofs.Common.{subst, sym}
use Rattle.dsa_tracker.specs.Rows.{Holds}
use Rattle.dsa_tracker.proofs.RowBits.{in_both}
use Rattle.dsa_tracker.proofs.marks.look.Goals as goal

pub returns : goal.returns
returns c =
    λ s marked. in_both _ _ s
    (subst (λ k. Holds c.args.rows.now k s) (sym c.first_place-first.ensures.value) marked.0)
    (subst (λ k. Holds c.args.rows.now k s) (sym c.second_place-second.ensures.value) marked.1)
