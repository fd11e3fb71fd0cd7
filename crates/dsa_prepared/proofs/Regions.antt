-- Regions that are apart.
use Rattle.std.proofs.Common.{◌≡◌, ℕ, ◌+◌, ◌-◌, ◌<◌, ◌≤◌, ◌⊎◌, inl, inr, true, false, List, [], ◌∷◌, map, sym, ap, subst, ◌∙◌, arith}
use Rattle.std.proofs.lemmas.Bool.{cond-true, cond-false}
use Rattle.std.proofs.lemmas.Bool.Decides.{nat_tests}
use Rattle.dsa_descriptor.specs.declared.span.Span.{Span}
use Rattle.dsa_descriptor.specs.Spans.{InSpan, InSome}
use Rattle.dsa_prepared.specs.Regions.{Region, base_span, new_span, has_address, relocated, HasAddress, AreDisjoint, LiesInOne}
use Rattle.dsa_prepared.specs.Relocation.{RegionsAreOneToOne, RegionsKeepOffsets}

pub in_tells : (s : Span) (a : ℕ) → ((has_address s a ≡ true) × InSpan s a) ⊎ ((has_address s a ≡ false) × ((a < s.first) ⊎ (s.first + s.len ≤ a)))
unfolding has_address
in_tells s a = grind (arith, nat_tests)

pub has_address-in : (s : Span) (a : ℕ) → s.first ≤ a → a < s.first + s.len → has_address s a ≡ true
unfolding has_address
has_address-in s a l h = grind (arith, nat_tests)

pub has_address-out : (s : Span) (a : ℕ) → (a < s.first) ⊎ (s.first + s.len ≤ a) → has_address s a ≡ false
unfolding has_address
has_address-out s a h = grind (arith, nat_tests)

pub head : (r : Region) (rs : List Region) (a : ℕ) → InSpan (base_span r) a → relocated (r ∷ rs) a ≡ r.new_base + (a - r.base)
head r rs a here = cond-true (has_address (base_span r) a) _ _ (has_address-in (base_span r) a here.0 here.1)

pub tail : (r : Region) (rs : List Region) (a : ℕ) → (a < r.base) ⊎ (r.base + r.len ≤ a) → relocated (r ∷ rs) a ≡ relocated rs a
tail r rs a out = cond-false (has_address (base_span r) a) _ _ (has_address-out (base_span r) a out)

-- an address of a later region lies outside the first
pub outside : (r : Region) (rs : List Region) (a : ℕ) → AreDisjoint (r ∷ rs) → HasAddress rs a → (a < r.base) ⊎ (r.base + r.len ≤ a)
outside r rs a apart there =
    elim (in_tells (base_span r) a) [
      | inl (is, here) ↦ absurd (apart.0 a here there)
      | inr (is, out) ↦ out
    ]

-- where addresses go
pub goes_to : (rs : List Region) (a : ℕ) → AreDisjoint rs → HasAddress rs a → InSome (map new_span rs) (relocated rs a)
goes_to [] a apart here = absurd here
goes_to (r ∷ rs) a apart (inl here) =
    let e = head r rs a here in
    inl (omega (arith, e, here.0), omega (arith, e, here.0, here.1))
goes_to (r ∷ rs) a apart (inr there) =
    inr (subst (λ (x : ℕ). InSome (map new_span rs) x) (sym (tail r rs a (outside r rs a apart there))) (goes_to rs a apart.2 there))

in_new : (r : Region) (rs : List Region) (a : ℕ) → InSpan (base_span r) a → InSpan (new_span r) (relocated (r ∷ rs) a)
in_new r rs a here =
    let e = head r rs a here in
    (omega (arith, e, here.0), omega (arith, e, here.0, here.1))

pub regions_are_one_to_one : RegionsAreOneToOne
regions_are_one_to_one [] apart a b here there same = absurd here
regions_are_one_to_one (r ∷ rs) apart a b (inl here) (inl there) same =
    let e = head r rs a here in
    let f = head r rs b there in
    omega (arith, e, f, same, here.0, there.0)
regions_are_one_to_one (r ∷ rs) apart a b (inl here) (inr there) same =
    let far = subst (λ (x : ℕ). InSome (map new_span rs) x) (sym (same ∙ tail r rs b (outside r rs b apart there))) (goes_to rs b apart.2 there) in
    absurd (apart.1 (relocated (r ∷ rs) a) (in_new r rs a here) far)
regions_are_one_to_one (r ∷ rs) apart a b (inr here) (inl there) same =
    let far = subst (λ (x : ℕ). InSome (map new_span rs) x) (sym (sym same ∙ tail r rs a (outside r rs a apart here))) (goes_to rs a apart.2 here) in
    absurd (apart.1 (relocated (r ∷ rs) b) (in_new r rs b there) far)
regions_are_one_to_one (r ∷ rs) apart a b (inr here) (inr there) same =
    regions_are_one_to_one rs apart.2 a b here there (sym (tail r rs a (outside r rs a apart here)) ∙ same ∙ tail r rs b (outside r rs b apart there))

-- the first address of a span that lies in a region lies there
pub first_in : (rs : List Region) (s : Span) → LiesInOne (map base_span rs) s → HasAddress rs s.first
first_in [] s lies = absurd lies
first_in (r ∷ rs) s (inl lies) = inl (lies.0, lies.1)
first_in (r ∷ rs) s (inr lies) = inr (first_in rs s lies)

pub regions_keep_offsets : RegionsKeepOffsets
regions_keep_offsets [] s apart lies k lt = absurd lies
regions_keep_offsets (r ∷ rs) s apart (inl lies) k lt =
    let low : r.base ≤ s.first + k = omega (arith, lies.0) in
    let high : s.first + k < r.base + r.len = omega (arith, lies.2) in
    let e = head r rs (s.first + k) (low, high) in
    let f = head r rs s.first (lies.0, lies.1) in
    let same : relocated (r ∷ rs) (s.first + k) ≡ relocated (r ∷ rs) s.first + k = omega (arith, e, f, lies.0) in
    (inl (low, high), same)
regions_keep_offsets (r ∷ rs) s apart (inr lies) k lt =
    let there = regions_keep_offsets rs s apart.2 lies k lt in
    let e = tail r rs (s.first + k) (outside r rs (s.first + k) apart there.0) in
    let f = tail r rs s.first (outside r rs s.first apart (first_in rs s lies)) in
    (inr there.0, e ∙ there.1 ∙ ap (λ (x : ℕ). x + k) (sym f))
