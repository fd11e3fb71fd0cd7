-- Conflicts of pieces of any kind; descriptors as pieces.
use Rattle.std.proofs.Common.{◌≡◌, ℕ, List, map, Bool, Some, None, option_map, refl, sym, ap, subst, ◌∙◌}
use Rattle.std.specs.Prelude.{◌↔◌, Option, IsTrue, slice_get}
use Rattle.std.proofs.lemmas.Option.{slice_get-map, same_Some}
use Rattle.dsa_descriptor.specs.declared.descriptor.Descriptor.{Descriptor}
use Rattle.dsa_descriptor.specs.declared.span.Span.{Span}
use Rattle.dsa_descriptor.specs.Fields.{Fields}
use Rattle.dsa_descriptor.specs.Descriptors.{fields}
use Rattle.dsa_ranges.specs.Ranges.{Conflicts, SpansConflict}
use Rattle.dsa_ranges.specs.Pieces.{ConflictAsTouched, DescriptorConflictAt, PieceConflictAt, reads_of, writes_of}

-- ---- pieces of any kind

module _ (P : Type 0) (reads writes : P → List Span) where
  -- a test of the spans of the pieces at two places is one of their conflict
  pub tests_pieces : (ps : List P) (i j : ℕ) (p q : P) (test : Bool) → slice_get ps i ≡ Some p → slice_get ps j ≡ Some q
      → (IsTrue test ↔ SpansConflict (reads p) (writes p) (reads q) (writes q)) → IsTrue test ↔ PieceConflictAt reads writes ps i j
  tests_pieces ps i j p q test at_i at_j h = (
    λ yes. (p, q, at_i, at_j, h.0 yes),
    λ (r, s, at_i', at_j', conflict).
        let same : r ≡ p = same_Some r p (sym at_i' ∙ at_i) in
        let other : s ≡ q = same_Some s q (sym at_j' ∙ at_j) in
        h.1 (subst (λ (x : P). SpansConflict (reads p) (writes p) (reads x) (writes x)) other
        (subst (λ (x : P). SpansConflict (reads x) (writes x) (reads s) (writes s)) same conflict)),
  )

-- ---- descriptors

-- the descriptor at a place of a list, by its fields
descriptor_of : (found : Option Descriptor) (f : Fields) → option_map fields found ≡ Some f → (d : Descriptor) × (found ≡ Some d) × (fields d ≡ f)
descriptor_of None f e = absurd cc
descriptor_of (Some d) f e = (d, refl, same_Some (fields d) f e)

descriptor_at : (ds : List Descriptor) (i : ℕ) (f : Fields) → slice_get (map fields ds) i ≡ Some f → (d : Descriptor) × (slice_get ds i ≡ Some d) × (fields d ≡ f)
descriptor_at ds i f at = descriptor_of (slice_get ds i) f (sym (slice_get-map fields ds i) ∙ at)

touched_here : (ds : List Descriptor) (i j : ℕ) → DescriptorConflictAt ds i j → PieceConflictAt reads_of writes_of ds i j
touched_here ds i j (f, g, at_i, at_j, h) =
    let (d, here, is) = descriptor_at ds i f at_i in
    let (e, there, other) = descriptor_at ds j g at_j in
    (d, e, here, there, subst (λ (x : Fields). Conflicts x (fields e)) (sym is) (subst (λ (x : Fields). Conflicts f x) (sym other) h))

conflict_here : (ds : List Descriptor) (i j : ℕ) → PieceConflictAt reads_of writes_of ds i j → DescriptorConflictAt ds i j
conflict_here ds i j (d, e, at_i, at_j, h) = (
  fields d,
  fields e,
  slice_get-map fields ds i ∙ ap (option_map fields) at_i,
  slice_get-map fields ds j ∙ ap (option_map fields) at_j,
  h,
)

pub are_pieces : ConflictAsTouched reads_of writes_of DescriptorConflictAt
are_pieces ds i j = (touched_here ds i j, conflict_here ds i j)
