-- Addresses of spans that keep their offsets.
use Rattle.std.proofs.Common.{◌≡◌, ℕ, ◌+◌, ◌-◌, inl, inr, List, [], ◌∷◌, map, sym, ap, subst, ◌∙◌, arith}
use Rattle.std.specs.Prelude.{◌↔◌}
use Rattle.std.specs.List.{AllByRecursion}
use Rattle.dsa_descriptor.specs.declared.span.Span.{Span}
use Rattle.dsa_descriptor.specs.Spans.{InSpan, InSome, Meets}
use Rattle.dsa_prepared.specs.Relocated.{relocated_span, IsOneToOne, KeepsOffsets}

-- an address of the span is one of those that are relocated, and goes to one of the relocated span
pub goes : (In : ℕ → Type 0) (to : ℕ → ℕ) (s : Span) (a : ℕ) → KeepsOffsets In to s → InSpan s a → In a × InSpan (relocated_span to s) (to a)
goes In to s a whole here =
    let at : s.first + (a - s.first) ≡ a = omega arith in
    let here' = whole (a - s.first) (omega arith) in
    let keep : to a ≡ to s.first + (a - s.first) = ap to (sym at) ∙ here'.1 in
    (subst In at here'.0, (omega (arith, keep), omega (arith, keep)))

-- each address of the relocated span comes from one
pub comes : (In : ℕ → Type 0) (to : ℕ → ℕ) (s : Span) (b : ℕ) → KeepsOffsets In to s → InSpan (relocated_span to s) b → (a : ℕ) × InSpan s a × In a × (to a ≡ b)
comes In to s b whole here =
    let k : ℕ = b - to s.first in
    let there = whole k (omega arith) in
    (s.first + k, (omega arith, omega arith), there.0, there.1 ∙ omega arith)

pub some_go : (In : ℕ → Type 0) (to : ℕ → ℕ) (ss : List Span) (a : ℕ) → AllByRecursion (KeepsOffsets In to) ss → InSome ss a → In a × InSome (map (relocated_span to) ss) (to a)
some_go In to [] a whole here = absurd here
some_go In to (s ∷ ss) a whole (inl here) = let g = goes In to s a whole.0 here in (g.0, inl g.1)
some_go In to (s ∷ ss) a whole (inr here) = let g = some_go In to ss a whole.1 here in (g.0, inr g.1)

pub some_come : (In : ℕ → Type 0) (to : ℕ → ℕ) (ss : List Span) (b : ℕ) → AllByRecursion (KeepsOffsets In to) ss → InSome (map (relocated_span to) ss) b → (a : ℕ) × InSome ss a × In a × (to a ≡ b)
some_come In to [] b whole here = absurd here
some_come In to (s ∷ ss) b whole (inl here) = let g = comes In to s b whole.0 here in (g.0, inl g.1, g.2, g.3)
some_come In to (s ∷ ss) b whole (inr here) = let g = some_come In to ss b whole.1 here in (g.0, inr g.1, g.2, g.3)

pub meeting_spans_stay : (In : ℕ → Type 0) (to : ℕ → ℕ) (s t : Span) → IsOneToOne In to → KeepsOffsets In to s → KeepsOffsets In to t → (Meets s t ↔ Meets (relocated_span to s) (relocated_span to t))
meeting_spans_stay In to s t apart whole whole' = (
  λ (a, here, there). (to a, (goes In to s a whole here).1, (goes In to t a whole' there).1),
  λ (b, here, there).
      let c = comes In to s b whole here in
      let d = comes In to t b whole' there in
      let same : d.0 ≡ c.0 = apart d.0 c.0 d.2 c.2 (d.3 ∙ sym c.3) in
      (c.0, c.1, subst (λ (x : ℕ). InSpan t x) same d.1),
)
