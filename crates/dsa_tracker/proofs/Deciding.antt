-- Whether spans conflict can be decided.
use Rattle.std.proofs.Common.{ℕ, ◌+◌, ◌⊎◌, inl, inr, List, [], ◌∷◌, arith}
use Rattle.std.proofs.lemmas.Bool.{cases_lt}
use Rattle.dsa_descriptor.specs.declared.span.Span.{Span}
use Rattle.dsa_descriptor.specs.Spans.{InSpan, InSome, Meets}
use Rattle.dsa_ranges.specs.Ranges.{SpansConflict, WritesInto}

abbrev pub Decided : Type 0 → Type 0
Decided A = A ⊎ (A → ⊥)

meets : (s t : Span) → Decided (Meets s t)
meets s t =
    elim (cases_lt 0 s.len) [
      | inr none ↦ inr (λ h. let one = h.1 in omega (arith, none, one))
      | inl s_some ↦
          elim (cases_lt 0 t.len) [
            | inr none ↦ inr (λ h. let two = h.2 in omega (arith, none, two))
            | inl t_some ↦
                elim (cases_lt s.first t.first) [
                  | inl before ↦
                      elim (cases_lt t.first (s.first + s.len)) [
                        | inl within ↦ inl (t.first, (omega (arith, before), within), (omega arith, omega (arith, t_some)))
                        | inr past ↦ inr (λ h. let one = h.1 in let two = h.2 in omega (arith, past, one, two))
                      ]
                  | inr after ↦
                      elim (cases_lt s.first (t.first + t.len)) [
                        | inl within ↦ inl (s.first, (omega arith, omega (arith, s_some)), (omega (arith, after), within))
                        | inr past ↦ inr (λ h. let one = h.1 in let two = h.2 in omega (arith, past, one, two))
                      ]
                ]
          ]
    ]

-- some address lies in both
abbrev InBoth : List Span → List Span → Type 0
InBoth ss ts = (a : ℕ) × InSome ss a × InSome ts a

one_in : (s : Span) (ts : List Span) → Decided ((a : ℕ) × InSpan s a × InSome ts a)
one_in s [] = inr (λ h. h.2)
one_in s (t ∷ ts) =
    elim (meets s t) [
      | inl found ↦ inl (found.0, found.1, inl found.2)
      | inr none_found ↦
          elim (one_in s ts) [
            | inl later ↦ inl (later.0, later.1, inr later.2)
            | inr none ↦ inr (λ h. elim h.2 [ inl here ↦ none_found (h.0, h.1, here) | inr later ↦ none (h.0, h.1, later) ])
          ]
    ]

in_both : (ss ts : List Span) → Decided (InBoth ss ts)
in_both [] ts = inr (λ h. h.1)
in_both (s ∷ ss) ts =
    elim (one_in s ts) [
      | inl found ↦ inl (found.0, inl found.1, found.2)
      | inr none_found ↦
          elim (in_both ss ts) [
            | inl later ↦ inl (later.0, inr later.1, later.2)
            | inr none ↦ inr (λ h. elim h.1 [ inl here ↦ none_found (h.0, here, h.2) | inr later ↦ none (h.0, later, h.2) ])
          ]
    ]

writes_into : (writes reads' writes' : List Span) → Decided (WritesInto writes reads' writes')
writes_into writes reads' writes' =
    elim (in_both writes reads') [
      | inl read ↦ inl (read.0, read.1, inl read.2)
      | inr not_read ↦
          elim (in_both writes writes') [
            | inl written ↦ inl (written.0, written.1, inr written.2)
            | inr not_written ↦ inr (λ h. elim h.2 [ inl r ↦ not_read (h.0, h.1, r) | inr w ↦ not_written (h.0, h.1, w) ])
          ]
    ]

pub spans_conflict : (reads writes reads' writes' : List Span) → Decided (SpansConflict reads writes reads' writes')
spans_conflict reads writes reads' writes' =
    elim (writes_into writes reads' writes') [
      | inl first ↦ inl (inl first)
      | inr not_first ↦
          elim (writes_into writes' reads writes) [
            | inl second ↦ inl (inr second)
            | inr not_second ↦ inr (λ h. elim h [ inl one ↦ not_first one | inr two ↦ not_second two ])
          ]
    ]
