use Rattle.std.proofs.Common.{◌<◌, length, below_more, refl, sym, subst, ◌∙◌}
use Rattle.std.proofs.lemmas.List.{get_or-map}
use Rattle.dsa_prepared.specs.declared.tie.Tie.{Tie}
use Rattle.dsa_prepared.specs.Filling.{IsTied}
use Rattle.dsa_prepared.specs.Rows.{tie_in}
use Rattle.dsa_prepared.proofs.RowChecks.{no_row}
use Rattle.dsa_prepared.proofs.filling.first_untied.Goals as goal

pub is_tied-requires-clause-region : goal.is_tied-requires-clause-region
is_tied-requires-clause-region c =
    let is = c.tie.ensures ∙ sym (get_or-map tie_in c.args.ties.now c.loop-i.i no_row (record { region = 0; offset = 0; other = 0; other_offset = 0 }) c.loop-i-test.true) in
    subst (λ (tie : Tie). tie.region < length c.args.bases.now) (sym is) (c.requires.inside c.loop-i.i c.loop-i-test.true).0

pub is_tied-requires-clause-other : goal.is_tied-requires-clause-other
is_tied-requires-clause-other c =
    let is = c.tie.ensures ∙ sym (get_or-map tie_in c.args.ties.now c.loop-i.i no_row (record { region = 0; offset = 0; other = 0; other_offset = 0 }) c.loop-i-test.true) in
    subst (λ (tie : Tie). tie.other < length c.args.bases.now) (sym is) (c.requires.inside c.loop-i.i c.loop-i-test.true).1

pub loop-i-preserved : goal.loop-i-preserved
loop-i-preserved c =
    let is = c.tie.ensures ∙ sym (get_or-map tie_in c.args.ties.now c.loop-i.i no_row (record { region = 0; offset = 0; other = 0; other_offset = 0 }) c.loop-i-test.true) in
    below_more _ _ c.loop-i.invariant (subst (IsTied c.args.bases.now) is (c.if-not-is_tied.ensures.0 refl))
