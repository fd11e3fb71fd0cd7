use Rattle.std.proofs.Common.{◌≡◌, ◌%◌, ℕ, map, get_or, below_more, refl, sym, subst, ◌∙◌, arith}
use Rattle.std.proofs.lemmas.List.{length-map, get_or-map}
use Rattle.dsa_descriptor.specs.declared.span.Span.{Span}
use Rattle.dsa_prepared.specs.Filling.{IsAlignedBase}
use Rattle.dsa_prepared.specs.Preparing.{region_at}
use Rattle.dsa_prepared.specs.Rows.{region_in, unit_in}
use Rattle.dsa_prepared.specs.Sound.{IsUnit}
use Rattle.dsa_prepared.proofs.RowChecks.{no_row}
use Rattle.dsa_prepared.proofs.filling.first_misaligned.Goals as goal

pub is_aligned-requires : goal.is_aligned-requires
is_aligned-requires c =
    let is = c.unit.ensures ∙ sym (get_or-map unit_in c.args.regions.now c.loop-i.i no_row 0 c.loop-i-test.true) in
    subst IsUnit (sym is) (c.requires.units c.loop-i.i (omega (arith, c.loop-i-test.true, length-map c.args.regions.now unit_in)))

pub loop-i-preserved : goal.loop-i-preserved
loop-i-preserved c =
    let i : ℕ = c.loop-i.i in
    let unit = c.unit.ensures ∙ sym (get_or-map unit_in c.args.regions.now i no_row 0 c.loop-i-test.true) in
    let region = c.region.ensures ∙ sym (get_or-map region_in c.args.regions.now i no_row (record { first = 0; len = 0 }) c.loop-i-test.true) in
    let here : get_or c.args.bases.now i 0 % c.unit.result ≡ c.region.result.first % c.unit.result = c.if-not-is_aligned.ensures.0 refl in
    let there : IsAlignedBase (map region_in c.args.regions.now) (map unit_in c.args.regions.now) c.args.bases.now i =
    subst (λ (u : ℕ). get_or c.args.bases.now i 0 % u ≡ (region_at (map region_in c.args.regions.now) i).first % u) unit
    (subst (λ (r : Span). get_or c.args.bases.now i 0 % c.unit.result ≡ r.first % c.unit.result) region here) in
    below_more _ _ c.loop-i.invariant there
