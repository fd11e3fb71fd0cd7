-- What is stored for other pieces changes no record.
use Rattle.std.proofs.Common.{◌≡◌, inl, inr, ℕ, Bool, true, false, List, [], ◌∷◌, Some, slice_get, refl, sym, subst}
use Rattle.std.specs.Prelude.{◌==◌, if◌then◌else◌}
use Rattle.std.proofs.lemmas.Bool.{cases_order, eqb-false, eqb-true}
use Rattle.dsa_descriptor.specs.declared.span.Span.{Span}
use Rattle.dsa_descriptor.specs.Spans.{InSome, InSpan}
use Rattle.dsa_resume.specs.Shared.{NoneShare, first_of}
use Rattle.dsa_resume.specs.Stores.{RecordsAreTheirOwn, Store, byte_after, stores_for}

-- one more store, for this piece or not, at this address or not
one_more : (own hits : Bool) (i a byte : ℕ) (s : Store) (ss : List Store) → (s.piece == i) ≡ own → (s.address == a) ≡ hits → (own ≡ false → hits ≡ true → ⊥)
    → ((b : ℕ) → byte_after ss a b ≡ byte_after (stores_for i ss) a b) → byte_after (s ∷ ss) a byte ≡ byte_after (stores_for i (s ∷ ss)) a byte
one_more true hits i a byte s ss eo eh other so_far = rw eo (so_far (if s.address == a then s.byte else byte))
one_more false true i a byte s ss eo eh other so_far = absurd (other refl refl)
one_more false false i a byte s ss eo eh other so_far = rw (eo, eh) (so_far byte)

-- a store for another piece into the record of this one
module _ {P : Type 0} (writes : P → List Span) (pieces : List P) (none : NoneShare writes pieces) (i j a : ℕ) (d e : P) (at_i : slice_get pieces i ≡ Some d) (at_j : slice_get pieces j ≡ Some e) where
  no_other : (i ≡ j → ⊥) → InSome (writes e) a → InSpan (first_of (writes d)) a → ⊥
  no_other apart stored inside =
      elim (cases_order i j) [
        | inl same ↦ apart same
        | inr (inl less) ↦ none i j less (d, e, at_i, at_j, inr (a, stored, inside))
        | inr (inr more) ↦ none j i more (e, d, at_j, at_i, inl (a, stored, inside))
      ]

pub records_are_their_own : {P : Type 0} (writes : P → List Span) → RecordsAreTheirOwn writes
records_are_their_own writes pieces [] none are i d a byte at_i inside = refl
records_are_their_own writes pieces (s ∷ ss) none ((e, at_j, stored), are) i d a byte at_i inside =
    one_more (s.piece == i) (s.address == a) i a byte s ss refl refl
    (λ other hits.
    no_other writes pieces none i s.piece a d e at_i at_j (λ same. eqb-false s.piece i other (sym same))
    (subst (λ (x : ℕ). InSome (writes e) x) (eqb-true s.address a hits) stored) inside)
    (λ b. records_are_their_own writes pieces ss none are i d a b at_i inside)
