use Rattle.std.proofs.Common.{◌≡◌, ◌+◌, ◌≤◌, ℕ, inl, inr, map, slice_index, ap, arith}
use Rattle.std.proofs.lemmas.Bool.{cases_eq}
use Rattle.std.proofs.lemmas.List.{length-map}
use Rattle.dsa_descriptor.specs.declared.span.Span.{Span}
use Rattle.dsa_prepared.specs.Filling.{new_region}
use Rattle.dsa_prepared.specs.Rows.{region_in}
use Rattle.dsa_prepared.proofs.Ranked.{rising_more}
use Rattle.dsa_prepared.proofs.sorted.are_rising.Goals as goal

pub loop-place-preserved : goal.loop-place-preserved
loop-place-preserved c =
    let rs = map region_in c.args.regions.now in
    let bases = c.args.bases.now in
    let order = c.args.order.now in
    let place : ℕ = c.loop-place.place in
    let r : Span = new_region rs bases (slice_index order place) in
    let first : c.new_region-region.result.first ≡ r.first = ap (λ (s : Span). s.first) c.new_region-region.ensures in
    let len : c.new_region-region.result.len ≡ r.len = ap (λ (s : Span). s.len) c.new_region-region.ensures in
    let above : c.loop-place.top ≤ r.first = omega (arith, first, c.from.ensures, c.if-from-top.false) in
    let top : c.end-top.result ≡ r.first + r.len = omega (arith, first, len, c.end-top.ensures) in
    record {
      rising = rising_more rs bases order place c.loop-place.top c.loop-place.invariant.rising c.loop-place.invariant.below
          (omega (arith, c.if-number-regions.false, length-map c.args.regions.now region_in)) above;
      below = λ p lt.
          elim (cases_eq p place) [
            | inl here ↦ rw here (omega (arith, top))
            | inr other ↦ omega (arith, c.loop-place.invariant.below p (omega (arith, lt, other)), above, top)
          ];
    }
