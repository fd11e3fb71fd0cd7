-- Looking for the region of an address from the first on.
use Rattle.std.proofs.Common.{◌≡◌, ℕ, suc, ◌+◌, ◌-◌, ◌<◌, ◌≤◌, inl, inr, List, [], ◌∷◌, length, drop, get_or, refl, sym, ap, ◌∙◌, arith}
use Rattle.std.proofs.lemmas.List.{drop_more, drop_all}
use Rattle.dsa_descriptor.specs.declared.span.Span.{Span}
use Rattle.dsa_descriptor.specs.Spans.{InSpan}
use Rattle.dsa_prepared.proofs.Regions.{in_tells}
use Rattle.dsa_prepared.specs.Entries.{place_in, one_further}

-- a place that many regions further
abbrev pub shifted : ℕ → ℕ × ℕ → ℕ × ℕ
shifted n p = (p.0 + n, p.1)

-- no region before that number has the address
pub record IsReached (rs : List Span) (a i : ℕ) : Type 0 where
  pub rest : place_in rs a ≡ shifted i (place_in (drop i rs) a)

pub begins : (rs : List Span) (a : ℕ) → IsReached rs a 0
begins rs a =
    let e : (place_in rs a).0 ≡ (place_in rs a).0 + 0 = omega arith in
    record { rest = λ i. (e i, (place_in rs a).1) }

pub goes_on : (rs : List Span) (a i : ℕ) (r : Span) → i < length rs → r ≡ get_or rs i r → (InSpan r a → ⊥) → IsReached rs a i → IsReached rs a (i + 1)
goes_on rs a i r lt is out h =
    let rest : List Span = drop (i + 1) rs in
    let cut : drop i rs ≡ r ∷ rest = drop_more rs i r lt ∙ ap (λ (x : Span). x ∷ rest) (sym is) in
    let more : place_in (r ∷ rest) a ≡ one_further (place_in rest a) =
    elim (in_tells r a) [
      | inl (yes_is, inside) ↦ absurd (out inside)
      | inr (no_is, far) ↦ rw no_is refl
    ] in
    let sum : suc (place_in rest a).0 + i ≡ (place_in rest a).0 + (i + 1) = omega arith in
    record { rest = h.rest ∙ ap (λ (ss : List Span). shifted i (place_in ss a)) cut ∙ ap (shifted i) more ∙ (λ x. (sum x, (place_in rest a).1)) }

pub found_at : (rs : List Span) (a i : ℕ) (r : Span) → i < length rs → r ≡ get_or rs i r → InSpan r a → IsReached rs a i → (i, a - r.first) ≡ place_in rs a
found_at rs a i r lt is inside h =
    let rest : List Span = drop (i + 1) rs in
    let cut : drop i rs ≡ r ∷ rest = drop_more rs i r lt ∙ ap (λ (x : Span). x ∷ rest) (sym is) in
    let here : place_in (r ∷ rest) a ≡ (0, a - r.first) =
    elim (in_tells r a) [
      | inl (yes_is, within) ↦ rw yes_is refl
      | inr (no_is, inl far) ↦ absurd (omega (arith, far, inside.0))
      | inr (no_is, inr far) ↦ absurd (omega (arith, far, inside.1))
    ] in
    let sum : 0 + i ≡ i = omega arith in
    sym (h.rest ∙ ap (λ (ss : List Span). shifted i (place_in ss a)) cut ∙ ap (shifted i) here ∙ (λ x. (sum x, a - r.first)))

pub nowhere : (rs : List Span) (a i : ℕ) → length rs ≤ i → i ≤ length rs → IsReached rs a i → (length rs, a) ≡ place_in rs a
nowhere rs a i low high h =
    let none : drop i rs ≡ [] = drop_all i rs low in
    let sum : 0 + i ≡ length rs = omega (arith, low, high) in
    sym (h.rest ∙ ap (λ (ss : List Span). shifted i (place_in ss a)) none ∙ (λ x. (sum x, a)))
