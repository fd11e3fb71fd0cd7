-- The spans of pieces, one piece after the other.
use Rattle.std.proofs.Common.{◌≡◌, ◌↔◌, ◌⊎◌, ℕ, zero, suc, Some, slice_get, ◌+◌, ◌<◌, ◌≤◌, inl, inr, List, [], ◌∷◌, ◌++◌, drop, length, get_or, take, sym, ap, ◌∙◌, subst}
use Rattle.std.specs.Prelude.{flat_map}
use Rattle.std.proofs.lemmas.List.{flat_map_more, take_all, take_more}
use Rattle.dsa_descriptor.specs.declared.span.Span.{Span}
use Rattle.dsa_descriptor.specs.Spans.{InSome, InSpan}
use Rattle.dsa_tracker.specs.Calls.{AreAddressable}
use Rattle.dsa_tracker.specs.Keeping.{InRecord, InTargets}

-- the spans of the first pieces
abbrev pub spans_of_first : {P : Type 0} → (P → List Span) → List P → ℕ → List Span
spans_of_first f pieces i = flat_map f (take i pieces)

one_more : {P : Type 0} (f : P → List Span) (pieces : List P) (i : ℕ) (d : P) → i < length pieces → spans_of_first f pieces (i + 1) ≡ spans_of_first f pieces i ++ f (get_or pieces i d)
one_more f pieces i d lt = ap (λ xs. flat_map f xs) (take_more pieces i d lt) ∙ sym (flat_map_more f [] (take i pieces) (get_or pieces i d))

pub in_append : (xs ys : List Span) (a : ℕ) → InSome (xs ++ ys) a ↔ (InSome xs a ⊎ InSome ys a)
in_append [] ys a = (λ h. inr h, λ h. elim h [ inl none ↦ absurd none | inr later ↦ later ])
in_append (x ∷ xs) ys a =
    let rest = in_append xs ys a in (
      λ h. elim h [ inl first ↦ inl (inl first) | inr later ↦ elim (rest.0 later) [ inl some ↦ inl (inr some) | inr last ↦ inr last ] ],
      λ h. elim h [ inl some ↦ elim some [ inl first ↦ inl first | inr later ↦ inr (rest.1 (inl later)) ] | inr last ↦ inr (rest.1 (inr last)) ],
    )

-- what was added for one piece more
pub more_pieces :
    {P : Type 0} (f : P → List Span) (pieces : List P) (i : ℕ) (d : P) (a : ℕ) (S A B : Type 0) → i < length pieces → d ≡ get_or pieces i d →
    A ↔ (S ⊎ InSome (spans_of_first f pieces i) a) → B ↔ (A ⊎ InSome (f d) a) → B ↔ (S ⊎ InSome (spans_of_first f pieces (i + 1)) a)
more_pieces f pieces i d a S A B lt d_is so_far here =
    let all_is : spans_of_first f pieces (i + 1) ≡ spans_of_first f pieces i ++ f d = one_more f pieces i d lt ∙ ap (λ x. spans_of_first f pieces i ++ f x) (sym d_is) in
    let both = subst (λ xs. InSome xs a ↔ (InSome (spans_of_first f pieces i) a ⊎ InSome (f d) a)) (sym all_is) (in_append (spans_of_first f pieces i) (f d) a) in (
      λ h. elim (here.0 h) [
        | inl before ↦ elim (so_far.0 before) [ inl first ↦ inl first | inr earlier ↦ inr (both.1 (inl earlier)) ]
        | inr now ↦ inr (both.1 (inr now))
      ],
      λ h. elim h [
        | inl first ↦ here.1 (inl (so_far.1 (inl first)))
        | inr some ↦ elim (both.0 some) [ inl earlier ↦ here.1 (inl (so_far.1 (inr earlier))) | inr now ↦ here.1 (inr now) ]
      ],
    )

pub all_pieces : {P : Type 0} (f : P → List Span) (pieces : List P) (i a : ℕ) (S A : Type 0) → length pieces ≤ i → A ↔ (S ⊎ InSome (spans_of_first f pieces i) a) → A ↔ (S ⊎ InSome (flat_map f pieces) a)
all_pieces f pieces i a S A le h = subst (λ xs. A ↔ (S ⊎ InSome (flat_map f xs) a)) (take_all i pieces le) h

pub one_span : (s : Span) (a : ℕ) (A B : Type 0) → B ↔ (A ⊎ InSpan s a) → B ↔ (A ⊎ InSome (s ∷ []) a)
one_span s a A B h = (
  λ b. elim (h.0 b) [ inl x ↦ inl x | inr here ↦ inr (inl here) ],
  λ b. elim b [ inl x ↦ h.1 (inl x) | inr some ↦ elim some [ inl here ↦ h.1 (inr here) | inr none ↦ absurd none ] ],
)

-- what a piece writes: its record and its destinations
one_parts : (xs : List Span) (a : ℕ) → InSome xs a ↔ (InSome (drop 1 xs) a ⊎ InSome (take 1 xs) a)
one_parts [] a = (λ h. absurd h, λ h. elim h [ inl t ↦ absurd t | inr r ↦ absurd r ])
one_parts (x ∷ xs) a = (
  λ h. elim h [ inl first ↦ inr (inl first) | inr later ↦ inl later ],
  λ h. elim h [ inl later ↦ inr later | inr r ↦ elim r [ inl first ↦ inl first | inr none ↦ absurd none ] ],
)

-- what pieces write: their destinations and their records
pub writes_parts : {P : Type 0} (f : P → List Span) (pieces : List P) (a : ℕ) → InSome (flat_map f pieces) a ↔ (InTargets f pieces a ⊎ InRecord f pieces a)
writes_parts f [] a = (λ h. absurd h, λ h. elim h [ inl t ↦ absurd t | inr r ↦ absurd r ])
writes_parts f (d ∷ ds) a =
    let rest = writes_parts f ds a in
    let here = one_parts (f d) a in
    let parts = in_append (f d) (flat_map f ds) a in
    let in_targets = in_append (drop 1 (f d)) (flat_map (λ e. drop 1 (f e)) ds) a in
    let in_records = in_append (take 1 (f d)) (flat_map (λ e. take 1 (f e)) ds) a in (
      λ h. elim (parts.0 h) [
        | inl first ↦ elim (here.0 first) [ inl t ↦ inl (in_targets.1 (inl t)) | inr r ↦ inr (in_records.1 (inl r)) ]
        | inr later ↦ elim (rest.0 later) [ inl t ↦ inl (in_targets.1 (inr t)) | inr r ↦ inr (in_records.1 (inr r)) ]
      ],
      λ h. elim h [
        | inl t ↦ elim (in_targets.0 t) [ inl first ↦ parts.1 (inl (here.1 (inl first))) | inr later ↦ parts.1 (inr (rest.1 (inl later))) ]
        | inr r ↦ elim (in_records.0 r) [ inl first ↦ parts.1 (inl (here.1 (inr first))) | inr later ↦ parts.1 (inr (rest.1 (inr later))) ]
      ],
    )

-- the spans of two lists, in one
at_left : (xs ys : List Span) (k : ℕ) (s : Span) → slice_get xs k ≡ Some s → slice_get (xs ++ ys) k ≡ Some s
at_left [] ys k s h = absurd cc
at_left (x ∷ xs) ys zero s h = h
at_left (x ∷ xs) ys (suc k) s h = at_left xs ys k s h

at_right : (xs ys : List Span) (k : ℕ) (s : Span) → slice_get ys k ≡ Some s → (i : ℕ) × (slice_get (xs ++ ys) i ≡ Some s)
at_right [] ys k s h = (k, h)
at_right (x ∷ xs) ys k s h = let later = at_right xs ys k s h in (suc later.0, later.1)

pub left_addressable : (xs ys : List Span) → AreAddressable (xs ++ ys) → AreAddressable xs
left_addressable xs ys all k s h = all k s (at_left xs ys k s h)

pub right_addressable : (xs ys : List Span) → AreAddressable (xs ++ ys) → AreAddressable ys
right_addressable xs ys all k s h = let at = at_right xs ys k s h in all at.0 s at.1
