use Rattle.std.proofs.Common.{below_more, refl, sym, arith, subst, get_or}
use Rattle.std.proofs.lemmas.Bool.{false≢true}
use Rattle.std.proofs.lemmas.List.{length-map, get_or-map}
use Rattle.dsa_prepared.specs.Sound.{IsUnit}
use Rattle.dsa_prepared.specs.Rows.{unit_in}
use Rattle.dsa_prepared.proofs.RowChecks.{all_read, no_row}
use Rattle.dsa_prepared.proofs.reading.are_units.Goals as goal

pub returns-then-not-is_unit : goal.returns-then-not-is_unit
returns-then-not-is_unit c = (
  λ yes. absurd (false≢true yes),
  λ all. let rows = c.args.regions.now in let i = c.loop-i.i in
      let here : IsUnit (unit_in (get_or rows i no_row)) = subst IsUnit (get_or-map unit_in rows i no_row 0 c.loop-i-test.true) (all i (omega (arith, c.loop-i-test.true, length-map rows unit_in))) in
      c.if-not-is_unit.ensures.1 (subst IsUnit (sym c.unit.ensures) here),
)

pub loop-i-preserved : goal.loop-i-preserved
loop-i-preserved c = below_more _ _ c.loop-i.invariant (subst IsUnit c.unit.ensures (c.if-not-is_unit.ensures.0 refl))

pub returns : goal.returns
returns c = (λ yes i lt. all_read IsUnit unit_in c.args.regions.now (λ k below. c.loop-i.invariant k (omega (arith, below, c.loop-i-test.false))) i 0 lt, λ all. refl)
