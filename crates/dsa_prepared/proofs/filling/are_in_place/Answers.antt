use Rattle.std.proofs.Common.{◌≡◌, ◌⊎◌, ◌+◌, ◌≤◌, ◌%◌, ℕ, inl, inr, map, get_or, below_more, refl, sym, ap, subst, ◌∙◌, arith}
use Rattle.std.proofs.lemmas.List.{length-map, get_or-map}
use Rattle.dsa_descriptor.specs.declared.span.Span.{Span}
use Rattle.dsa_prepared.specs.Filling.{AllBelow, FitsAt, IsAlignedBase, IsApartFromEarlier, LiesBetween, new_region}
use Rattle.dsa_prepared.specs.Preparing.{region_at}
use Rattle.dsa_prepared.specs.Rows.{region_in, unit_in}
use Rattle.dsa_prepared.specs.Sound.{IsUnit}
use Rattle.dsa_prepared.proofs.Put.{beside_apart}
use Rattle.dsa_prepared.proofs.RowChecks.{no_row}
use Rattle.dsa_prepared.proofs.filling.are_in_place.Goals.{else-region-top-via-then-region-top+else-end-bottom, else-region-top-via-else-region-top}
use Rattle.dsa_prepared.proofs.filling.are_in_place.Goals as goal

pub is_aligned-requires : goal.is_aligned-requires
is_aligned-requires c =
    let is = c.unit.ensures ∙ sym (get_or-map unit_in c.args.regions.now c.loop-i.i no_row 0 c.loop-i-test.true) in
    subst IsUnit (sym is) (c.requires.units c.loop-i.i (omega (arith, c.loop-i-test.true, length-map c.args.regions.now unit_in)))

pub loop-i-preserved : goal.loop-i-preserved
loop-i-preserved c =
    let i : ℕ = c.loop-i.i in
    let rs = map region_in c.args.regions.now in
    let bases = c.args.bases.now in
    let r : Span = new_region rs bases i in
    let first : c.new_region-region.result.first ≡ r.first = ap (λ (s : Span). s.first) c.new_region-region.ensures in
    let len : c.new_region-region.result.len ≡ r.len = ap (λ (s : Span). s.len) c.new_region-region.ensures in
    let unit = c.unit.ensures ∙ sym (get_or-map unit_in c.args.regions.now i no_row 0 c.loop-i-test.true) in
    let region = c.region.ensures ∙ sym (get_or-map region_in c.args.regions.now i no_row (record { first = 0; len = 0 }) c.loop-i-test.true) in
    let here : get_or bases i 0 % c.unit.result ≡ c.region.result.first % c.unit.result = c.if-not-is_aligned.ensures.0 refl in
    let aligned : IsAlignedBase rs (map unit_in c.args.regions.now) bases i =
    subst (λ (u : ℕ). get_or bases i 0 % u ≡ (region_at rs i).first % u) unit
    (subst (λ (s : Span). get_or bases i 0 % c.unit.result ≡ s.first % c.unit.result) region here) in
    let beside : (c.loop-i.top ≤ r.first) ⊎ (r.first + r.len ≤ c.loop-i.bottom) =
    elim c.else-region-top.branch [
      | else-region-top-via-then-region-top+else-end-bottom w ↦ inr (omega (arith, w.if-end-bottom.false, c.in-Some.ensures, first, len))
      | else-region-top-via-else-region-top w ↦ inl (omega (arith, w.if-region-top.false, first))
    ] in
    let apart : IsApartFromEarlier rs bases i = λ j lt.
    let lies = c.loop-i.invariant.between j lt in
    beside_apart r (new_region rs bases j) c.loop-i.bottom c.loop-i.top beside lies.0 lies.1 in
    let lies : LiesBetween rs bases c.min-bottom.result c.max-top.result i = (omega (arith, first, c.min-bottom.ensures), omega (arith, first, len, c.in-Some.ensures, c.max-top.ensures)) in
    let wider : AllBelow i (LiesBetween rs bases c.min-bottom.result c.max-top.result) =
    λ j lt. let was = c.loop-i.invariant.between j lt in (omega (arith, was.0, c.min-bottom.ensures), omega (arith, was.1, c.max-top.ensures)) in
    let fits : FitsAt rs bases i = omega (arith, c.in-Some.ensures, first, len) in
    record {
      fit = below_more _ _ c.loop-i.invariant.fit fits;
      aligned = below_more _ _ c.loop-i.invariant.aligned aligned;
      apart = below_more _ _ c.loop-i.invariant.apart apart;
      between = below_more _ _ wider lies;
    }

pub returns : goal.returns
returns c = λ yes.
    let rs = map region_in c.args.regions.now in
    let inv = c.loop-i.invariant in
    let beside : (c.loop-i.top ≤ c.args.area.first) ⊎ (c.args.area.first + c.args.area.len ≤ c.loop-i.bottom) = rw c.from.ensures at (c.is_beside.ensures.0 yes) in (
      λ i lt. inv.fit i (omega (arith, lt, c.loop-i-test.false)),
      λ i lt. inv.aligned i (omega (arith, lt, c.loop-i-test.false)),
      λ i lt. inv.apart i (omega (arith, lt, c.loop-i-test.false)),
      λ i lt.
          let lies = inv.between i (omega (arith, lt, c.loop-i-test.false)) in
          beside_apart c.args.area (new_region rs c.args.bases.now i) c.loop-i.bottom c.loop-i.top beside lies.0 lies.1,
    )
