-- Regions at their new bases, as the laws of relocation ask for them.
use Rattle.std.proofs.Common.{◌≡◌, ℕ, suc, ◌+◌, ◌<◌, ◌≤◌, inl, inr, List, [], ◌∷◌, length, map, refl, ap, subst, arith}
use Rattle.std.specs.Prelude.{⊤}
use Rattle.std.specs.List.{AllByRecursion}
use Rattle.dsa_descriptor.specs.declared.span.Span.{Span}
use Rattle.dsa_descriptor.specs.Spans.{InSpan, InSome, ApartFrom, IsAddressable}
use Rattle.dsa_prepared.specs.Regions.{base_span, new_span, AreDisjoint}
use Rattle.dsa_prepared.proofs.Regions.{in_tells}
use Rattle.dsa_prepared.specs.Entries.{place_in}
use Rattle.dsa_prepared.specs.Preparing.{region_at, AreRegions, relocation}
use Rattle.dsa_prepared.specs.Filling.{AllBelow, new_region, FitsAt, IsApartFromEarlier, IsClearAt}

-- each begins at the address or after it, and after those before it
abbrev pub Ascend : ℕ → List Span → Type 0
Ascend from [] = ⊤
Ascend from (r ∷ rs) = (from ≤ r.first) × Ascend (r.first + r.len) rs

pub regions_tail : (r : Span) (rs : List Span) → AreRegions (r ∷ rs) → AreRegions rs
regions_tail r rs all i lt =
    let h = all (suc i) (omega (arith, lt)) in
    (h.0, λ j e. h.1 (suc j) (ap suc e))

ascend : (from : ℕ) (rs : List Span) → AreRegions rs → (0 < length rs → from ≤ (region_at rs 0).first) → Ascend from rs
ascend from [] all first = tt
ascend from (r ∷ rs) all first =
    (first (omega arith), ascend (r.first + r.len) rs (regions_tail r rs all) (λ some. (all 1 (omega (arith, some))).1 0 refl))

after_all : (from : ℕ) (rs : List Span) → Ascend from rs → (a : ℕ) → InSome rs a → from ≤ a
after_all from [] h a here = absurd here
after_all from (r ∷ rs) h a (inl here) = omega (arith, h.0, here.0)
after_all from (r ∷ rs) h a (inr there) = let rest = after_all (r.first + r.len) rs h.1 a there in omega (arith, h.0, rest)

pub bases_are : (rs : List Span) (bases : List ℕ) → length bases ≡ length rs → map base_span (relocation rs bases) ≡ rs
bases_are [] bases count = refl
bases_are (r ∷ rs) [] count = absurd (omega (arith, count))
bases_are (r ∷ rs) (base ∷ bases) count = ap (λ (ss : List Span). r ∷ ss) (bases_are rs bases (omega (arith, count)))

-- an address where a region goes
pub found_new : (rs : List Span) (bases : List ℕ) → length bases ≡ length rs → (a : ℕ) → InSome (map new_span (relocation rs bases)) a → (j : ℕ) × (j < length rs) × InSpan (new_region rs bases j) a
found_new [] bases count a here = absurd here
found_new (r ∷ rs) [] count a here = absurd (omega (arith, count))
found_new (r ∷ rs) (base ∷ bases) count a (inl here) = (0, omega arith, here)
found_new (r ∷ rs) (base ∷ bases) count a (inr there) =
    let f = found_new rs bases (omega (arith, count)) a there in
    (suc f.0, omega (arith, f.1), f.2)

pub disjoint : (rs : List Span) (bases : List ℕ) → length bases ≡ length rs → AreRegions rs → AllBelow (length rs) (IsApartFromEarlier rs bases) → AreDisjoint (relocation rs bases)
disjoint [] bases count all apart = tt
disjoint (r ∷ rs) [] count all apart = absurd (omega (arith, count))
disjoint (r ∷ rs) (base ∷ bases) count all apart =
    let count' : length bases ≡ length rs = omega (arith, count) in
    let after = ascend (r.first + r.len) rs (regions_tail r rs all) (λ some. (all 1 (omega (arith, some))).1 0 refl) in (
      λ a here there.
          let b = after_all (r.first + r.len) rs after a (subst (λ (ss : List Span). InSome ss a) (bases_are rs bases count') there) in
          omega (arith, here.1, b),
      λ a here there.
          let f = found_new rs bases count' a there in
          apart (suc f.0) (omega (arith, f.1)) 0 (omega arith) a f.2 here,
      disjoint rs bases count' (regions_tail r rs all) (λ i lt j less. apart (suc i) (omega (arith, lt)) (suc j) (omega (arith, less))),
    )

pub all_fit : (rs : List Span) (bases : List ℕ) → length bases ≡ length rs → AllBelow (length rs) (FitsAt rs bases) → AllByRecursion (λ r. IsAddressable (new_span r)) (relocation rs bases)
all_fit [] bases count fit = tt
all_fit (r ∷ rs) [] count fit = absurd (omega (arith, count))
all_fit (r ∷ rs) (base ∷ bases) count fit = (fit 0 (omega arith), all_fit rs bases (omega (arith, count)) (λ i lt. fit (suc i) (omega (arith, lt))))

pub all_clear : (rs : List Span) (bases : List ℕ) (area : Span) → length bases ≡ length rs → AllBelow (length rs) (IsClearAt rs bases area) → ApartFrom area (map new_span (relocation rs bases))
all_clear rs bases area count clear a here there =
    let f = found_new rs bases count a there in
    clear f.0 f.1 a here f.2

-- where an address lies, by its place
pub record IsPlacedIn (rs : List Span) (a : ℕ) (p : ℕ × ℕ) : Type 0 where
  pub region : p.0 < length rs
  pub offset : p.1 < (region_at rs p.0).len
  pub is : a ≡ (region_at rs p.0).first + p.1

pub place_holds : (rs : List Span) (a : ℕ) → InSome rs a → IsPlacedIn rs a (place_in rs a)
place_holds [] a here = absurd here
place_holds (r ∷ rs) a (inl here) =
    elim (in_tells r a) [
      | inl (is, inside) ↦ rw is (record { region = omega arith; offset = omega (arith, inside.0, inside.1); is = omega (arith, inside.0) })
      | inr (is, inl out) ↦ absurd (omega (arith, here.0, out))
      | inr (is, inr out) ↦ absurd (omega (arith, here.1, out))
    ]
place_holds (r ∷ rs) a (inr there) =
    let h = place_holds rs a there in
    elim (in_tells r a) [
      | inl (is, inside) ↦ rw is (record { region = omega arith; offset = omega (arith, inside.0, inside.1); is = omega (arith, inside.0) })
      | inr (is, out) ↦ rw is (record { region = omega (arith, h.region); offset = h.offset; is = h.is })
    ]
