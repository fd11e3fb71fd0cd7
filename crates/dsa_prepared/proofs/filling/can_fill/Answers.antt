use Rattle.std.proofs.Common.{◌≡◌, ℕ, List, map, length, refl, subst}
use Rattle.dsa_descriptor.specs.declared.span.Span.{Span}
use Rattle.dsa_prepared.specs.declared.row.Row.{Row}
use Rattle.dsa_prepared.specs.Filling.{AllBelow, FitsAt, IsAlignedBase, IsTiedAt, IsApartFromEarlier, IsClearAt}
use Rattle.dsa_prepared.specs.Rows.{region_in, unit_in, tie_in, region_rows, tie_rows}
use Rattle.dsa_prepared.proofs.RowParts.{all_of}
use Rattle.dsa_prepared.proofs.filling.can_fill.Goals as goal

pub returns : goal.returns
returns c = λ yes.
    let rows : List Row = c.args.rows.now in
    let bases : List ℕ = c.args.bases.now in
    let found : List Row = c.region_rows.result.now in
    let whole : List Row = region_rows rows in
    let is : found ≡ whole = c.region_rows.ensures.value in
    let made = c.are_in_place.ensures yes in
    record {
      fit = all_of (λ (rs : List Row). FitsAt (map region_in rs) bases) region_in found whole is made.0;
      aligned = all_of (λ (rs : List Row). IsAlignedBase (map region_in rs) (map unit_in rs) bases) region_in found whole is made.1;
      tied = all_of (λ (ts : List Row). IsTiedAt (map tie_in ts) bases) tie_in c.tie_rows.result.now (tie_rows rows) c.tie_rows.ensures.value c.in-None.ensures;
      apart = all_of (λ (rs : List Row). IsApartFromEarlier (map region_in rs) bases) region_in found whole is made.2;
      clear = subst (λ (area : Span). AllBelow (length (map region_in whole)) (IsClearAt (map region_in whole) bases area)) c.area_of.ensures
          (all_of (λ (rs : List Row). IsClearAt (map region_in rs) bases c.area_of.result) region_in found whole is made.3);
      address = c.if-not-allows.ensures.0 refl;
    }
