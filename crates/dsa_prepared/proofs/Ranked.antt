-- Regions in an order in which each ends before the next begins.
use Rattle.std.proofs.Common.{ℕ, ◌≡◌, ◌≢◌, ◌+◌, ◌<◌, ◌≤◌, inl, inr, List, length, slice_index, sym, ap, ◌∙◌, arith}
use Rattle.std.proofs.lemmas.Bool.{cases_lt, cases_eq}
use Rattle.dsa_descriptor.specs.declared.span.Span.{Span}
use Rattle.dsa_prepared.specs.Filling.{AllBelow, AreRising, IsApartFromEarlier, new_region}

-- one more
pub rising_more : (rs : List Span) (bases order : List ℕ) (place top : ℕ) → AreRising rs bases order place →
    ((p : ℕ) → p < place → (new_region rs bases (slice_index order p)).first + (new_region rs bases (slice_index order p)).len ≤ top) →
    slice_index order place < length rs → top ≤ (new_region rs bases (slice_index order place)).first → AreRising rs bases order (place + 1)
rising_more rs bases order place top h below inside above = record {
  inside = λ p lt.
      elim (cases_eq p place) [
        | inl here ↦ rw here inside
        | inr other ↦ h.inside p (omega (arith, lt, other))
      ];
  rise = λ p q less lt.
      elim (cases_eq q place) [
        | inl here ↦ rw here (omega (arith, below p (omega (arith, less, here)), above))
        | inr other ↦ h.rise p q less (omega (arith, lt, other))
      ];
}

-- each region has a place of its own there: no two have an address in common
pub rising_apart : (rs : List Span) (bases order : List ℕ) (n : ℕ) → AreRising rs bases order n →
    AllBelow n (λ k. (p : ℕ) × (p < n) × (slice_index order p ≡ k)) → AllBelow n (IsApartFromEarlier rs bases)
rising_apart rs bases order n h each i inside j before address a b =
    let here = each i inside in
    let there = each j (omega (arith, before, inside)) in
    let p : ℕ = here.0 in
    let q : ℕ = there.0 in
    elim (cases_lt p q) [
      | inl less ↦
          let up = rw (here.2, there.2) at (h.rise p q less there.1) in
          omega (arith, up, a.1, b.0)
      | inr more ↦
          let other : q ≢ p = λ same. omega (arith, sym here.2 ∙ ap (λ (k : ℕ). slice_index order k) (sym same) ∙ there.2, before) in
          let up = rw (here.2, there.2) at (h.rise q p (omega (arith, more, other)) here.1) in
          omega (arith, up, a.0, b.1)
    ]
