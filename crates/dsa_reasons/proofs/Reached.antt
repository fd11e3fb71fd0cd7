-- What the search for a fence's reasons asks of two pieces.
use Rattle.std.proofs.Common.{◌≡◌, ℕ, ◌-◌, ◌<◌, ◌≤◌, inl, inr, List, length, get_or, refl, sym, ◌∙◌, subst, arith}
use Rattle.std.proofs.lemmas.Bool.{cases_eq}
use Rattle.std.proofs.lemmas.Option.{same_Some, slice_get_read}
use Rattle.dsa_descriptor.specs.declared.span.Span.{Span}
use Rattle.dsa_ranges.specs.declared.hazards.HazardKind.{HazardKind}
use Rattle.dsa_ranges.specs.declared.hazards.HazardKind.TheVariants.{ReadAfterWrite, WriteAfterRead, WriteAfterWrite}
use Rattle.dsa_ranges.specs.declared.hazards.Hazard.{Hazard}
use Rattle.dsa_ranges.specs.Ranges.{SpansConflict}
use Rattle.dsa_ranges.specs.Hazards.{IsHazard}
use Rattle.dsa_ranges.specs.Pieces.{PieceConflictAt}
use Rattle.dsa_settings.specs.Plan.{Group}
use Rattle.dsa_settings.specs.Legal.{IsFenced}
use Rattle.dsa_reasons.specs.Reasons.{NeedsFence, IsHazardOf, IsReached}

module _ {P : Type 0} (reads writes : P → List Span) (ps : List P) (i j : ℕ) (p q : P) (r w r' w' : List Span) where
  -- what was found of the spans of the pieces at two places
  pub hazard_seen : (h : Hazard) → i < length ps → j < length ps → p ≡ get_or ps i p → q ≡ get_or ps j q → r ≡ reads p → w ≡ writes p → r' ≡ reads q
      → w' ≡ writes q → IsHazard r w r' w' h.address h.kind → IsHazardOf reads writes ps i j h
  hazard_seen h i_within j_within i_is j_is a b a' b' is =
      record {
        earlier = p;
        later = q;
        earlier_is = slice_get_read ps (length ps) i p refl i_within i_is;
        later_is = slice_get_read ps (length ps) j q refl j_within j_is;
        hazard = rw (a, b, a', b') at is;
      }

  -- if the pieces there conflict, so do the spans
  pub conflict_seen : i < length ps → j < length ps → p ≡ get_or ps i p → q ≡ get_or ps j q → r ≡ reads p → w ≡ writes p → r' ≡ reads q
      → w' ≡ writes q → PieceConflictAt reads writes ps i j → SpansConflict r w r' w'
  conflict_seen i_within j_within i_is j_is a b a' b' (s, t, at_i, at_j, h) =
      let first : s ≡ p = same_Some s p (sym at_i ∙ slice_get_read ps (length ps) i p refl i_within i_is) in
      let second : t ≡ q = same_Some t q (sym at_j ∙ slice_get_read ps (length ps) j q refl j_within j_is) in
      let here : SpansConflict (reads p) (writes p) (reads q) (writes q) =
      subst (λ (x : P). SpansConflict (reads p) (writes p) (reads x) (writes x)) second
      (subst (λ (x : P). SpansConflict (reads x) (writes x) (reads t) (writes t)) first h) in
      rw (a, b, a', b') here

-- a hazard is a conflict
hazard_meets : (r w r' w' : List Span) (address : ℕ) (kind : HazardKind) → IsHazard r w r' w' address kind → SpansConflict r w r' w'
hazard_meets r w r' w' address ReadAfterWrite (here, there) = inl (address, here, inl there)
hazard_meets r w r' w' address WriteAfterRead (here, there, no_read, no_write) = inr (address, there, inl here)
hazard_meets r w r' w' address WriteAfterWrite (here, there, no_read) = inl (address, here, inr there)

pub hazard_conflicts : {P : Type 0} (reads writes : P → List Span) (fs : List P) (a b : ℕ) (h : Hazard) → IsHazardOf reads writes fs a b h
    → PieceConflictAt reads writes fs a b
hazard_conflicts reads writes fs a b h is = (
  is.earlier,
  is.later,
  is.earlier_is,
  is.later_is,
  hazard_meets (reads is.earlier) (writes is.earlier) (reads is.later) (writes is.later) h.address h.kind is.hazard,
)

-- ---- the inner loop, which has come from `at` down to i

pub open_more : (start : ℕ) (group : Group) (i at : ℕ) → 0 < i → (IsFenced start group (i - 1) → ⊥)
    → ((k : ℕ) → i ≤ k → k < at → IsFenced start group k → ⊥) → (k : ℕ) → i - 1 ≤ k → k < at → IsFenced start group k → ⊥
open_more start group i at lt here later k le below fenced =
    elim (cases_eq k (i - 1)) [
      | inl same ↦ here (subst (IsFenced start group) same fenced)
      | inr other ↦ later k (omega arith) below fenced
    ]

-- ---- the outer loop

-- a piece before a fence that it needs has no other fence up to that one
pub needs_reached : (C : ℕ → ℕ → Type 0) (start : ℕ) (group : Group) (at a b : ℕ) → NeedsFence C start group at a b → IsReached start group at a
needs_reached C start group at a b needs =
    record {
      begun = needs.conflicts.starts;
      before = needs.before;
      open_between = λ other after before fenced.
          let same : other ≡ at = needs.alone other after (omega (arith, needs.after)) fenced in omega arith;
    }
