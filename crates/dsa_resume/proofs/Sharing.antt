-- Pieces share a record where what they write conflicts, if the data is read and the record is written.
use Rattle.std.proofs.Common.{◌≡◌, ◌⊎◌, inl, inr, ℕ, zero, suc, ◌<◌, ◌≤◌, List, [], ◌∷◌, length, get_or, map, take, drop, Option, Some, None, slice_get, refl, sym, ap, ◌∙◌, subst, arith}
use Rattle.std.specs.Prelude.{option_map}
use Rattle.std.proofs.lemmas.Bool.{cases_lt}
use Rattle.std.proofs.lemmas.List.{length-map}
use Rattle.std.proofs.lemmas.Option.{same_Some, slice_get-map, slice_get-get_or, slice_get_within}
use Rattle.dsa_descriptor.specs.declared.span.Span.{Span}
use Rattle.dsa_descriptor.specs.Spans.{InSome, InSpan}
use Rattle.dsa_ranges.specs.Ranges.{SpansConflict, WritesInto}
use Rattle.dsa_conflicts.specs.Last.{HasLastsBy, IsLastBy}
use Rattle.dsa_resume.specs.declared.shared.Written.{Written}
use Rattle.dsa_resume.specs.Shared.{FindsFirst, FindsShared, HaveLastShared, IsLastShared, ShareRecord, SharesAt, WriteRecordOf, WrittenConflictAt, first_of, spans_in}

-- ---- of two lists of spans

in_parts : (ss : List Span) (a : ℕ) → InSome ss a → InSome (drop 1 ss) a ⊎ InSome (take 1 ss) a
in_parts [] a h = absurd h
in_parts (s ∷ ss) a (inl here) = inr (inl here)
in_parts (s ∷ ss) a (inr further) = inl further

in_whole : (ss : List Span) (a : ℕ) → InSome (drop 1 ss) a ⊎ InSome (take 1 ss) a → InSome ss a
in_whole [] a (inl h) = absurd h
in_whole [] a (inr h) = absurd h
in_whole (s ∷ ss) a (inl further) = inr further
in_whole (s ∷ ss) a (inr (inl here)) = inl here
in_whole (s ∷ ss) a (inr (inr none)) = absurd none

in_first : (ss : List Span) (a : ℕ) → InSome (take 1 ss) a → InSpan (first_of ss) a
in_first [] a h = absurd h
in_first (s ∷ ss) a (inl here) = here
in_first (s ∷ ss) a (inr none) = absurd none

first_in : (ss : List Span) (a : ℕ) → InSpan (first_of ss) a → InSome (take 1 ss) a
first_in [] a h = absurd (omega (arith, h.0, h.1))
first_in (s ∷ ss) a h = inl h

-- one writes its record into what the other reads or writes where the other writes into its record
into_record : (ss ts : List Span) → WritesInto (take 1 ts) (drop 1 ss) (take 1 ss) → WriteRecordOf ss ts
into_record ss ts (a, inside, touched) = (a, in_whole ss a touched, in_first ts a inside)

record_into : (ss ts : List Span) → WriteRecordOf ss ts → WritesInto (take 1 ts) (drop 1 ss) (take 1 ss)
record_into ss ts (a, written, inside) = (a, first_in ts a inside, in_parts ss a written)

conflict_shares : (ss ts : List Span) → SpansConflict (drop 1 ss) (take 1 ss) (drop 1 ts) (take 1 ts) → ShareRecord ss ts
conflict_shares ss ts (inl h) = inr (into_record ts ss h)
conflict_shares ss ts (inr h) = inl (into_record ss ts h)

shares_conflict : (ss ts : List Span) → ShareRecord ss ts → SpansConflict (drop 1 ss) (take 1 ss) (drop 1 ts) (take 1 ts)
shares_conflict ss ts (inl h) = inr (record_into ss ts h)
shares_conflict ss ts (inr h) = inl (record_into ts ss h)

-- ---- in a list

-- what is at a place of a list that is made of another
made_of : {A B : Type 0} (f : A → B) (xs : List A) (k : ℕ) (y : B) → slice_get (map f xs) k ≡ Some y → (x : A) × (slice_get xs k ≡ Some x) × (f x ≡ y)
made_of f [] k y e = cc
made_of f (x ∷ xs) zero y e = (x, refl, same_Some (f x) y e)
made_of f (x ∷ xs) (suc k) y e = made_of f xs k y e

-- of two lists that are seen alike what the one has at a place is seen as what the other has there
alike_at : {A B C : Type 0} (f : A → C) (g : B → C) (xs : List A) (ys : List B) → map f xs ≡ map g ys → (k : ℕ) (x : A) → slice_get xs k ≡ Some x → (y : B) × (slice_get ys k ≡ Some y) × (g y ≡ f x)
alike_at f g xs ys same k x at =
    let there : slice_get (map f xs) k ≡ Some (f x) = slice_get-map f xs k ∙ ap (option_map f) at in
    made_of g ys k (f x) (subst (λ zs. slice_get zs k ≡ Some (f x)) same there)

module _ {P : Type 0} (writes : P → List Span) (ps : List P) (all : List Written) (same : map spans_in all ≡ map writes ps) where
  to_shared : (i j : ℕ) → WrittenConflictAt all i j → SharesAt writes ps i j
  to_shared i j (v, w, at_i, at_j, conflict) =
      let p = alike_at spans_in writes all ps same i v at_i in
      let q = alike_at spans_in writes all ps same j w at_j in
      let share : ShareRecord (spans_in v) (spans_in w) = conflict_shares (spans_in v) (spans_in w) conflict in (
        p.0,
        q.0,
        p.1,
        q.1,
        subst (λ (ss : List Span). ShareRecord ss (writes q.0)) (sym p.2) (subst (λ (ss : List Span). ShareRecord (spans_in v) ss) (sym q.2) share),
      )

  to_conflict : (i j : ℕ) → SharesAt writes ps i j → WrittenConflictAt all i j
  to_conflict i j (p, q, at_i, at_j, share) =
      let v = alike_at writes spans_in ps all (sym same) i p at_i in
      let w = alike_at writes spans_in ps all (sym same) j q at_j in
      let seen : ShareRecord (spans_in v.0) (spans_in w.0) = subst (λ (ss : List Span). ShareRecord ss (spans_in w.0)) (sym v.2) (subst (λ (ss : List Span). ShareRecord (writes p) ss) (sym w.2) share) in
      (v.0, w.0, v.1, w.1, shares_conflict (spans_in v.0) (spans_in w.0) seen)

  module _ (few : length ps ≤ 65536) (lasts : List (Option ℕ)) (has : HasLastsBy (WrittenConflictAt all) (length all) 65536 lasts) where
    -- a place without an index shares with none before it
    alone : (y : ℕ) → slice_get lasts y ≡ Some None → (x : ℕ) → x < y → SharesAt writes ps x y → ⊥
    alone y there x less shares =
        let inside : y < length ps = slice_get_within ps y shares.1 shares.3 in
        has.each y None there x (record { before = less; within = omega (arith, inside, few); conflict = to_conflict x y shares })

    each_last : (j : ℕ) (last : Option ℕ) → slice_get lasts j ≡ Some last → IsLastShared writes ps j last
    each_last j None there = λ i less shares. alone j there i less shares
    each_last j (Some i) there =
        let last : IsLastBy (WrittenConflictAt all) 65536 j (Some i) = has.each j (Some i) there in (
          last.0.before,
          to_shared i j last.0.conflict,
          λ x less shares.
              let inside : j < length ps = slice_get_within ps j shares.1 shares.3 in
              last.1 x (record { before = less; within = omega (arith, inside, few); conflict = to_conflict x j shares }),
        )

    pub lasts_shared : HaveLastShared writes ps lasts
    lasts_shared = record { count = has.count ∙ (sym (length-map all spans_in) ∙ (ap length same ∙ length-map ps writes)); each = each_last }

-- the first place that has an index has the first two pieces that share
module _ {P : Type 0} (writes : P → List Span) (ps : List P) (lasts : List (Option ℕ)) (has : HaveLastShared writes ps lasts) where
  last_of : (y : ℕ) → y < length ps → slice_get lasts y ≡ Some (get_or lasts y None)
  last_of y inside = slice_get-get_or lasts y None (omega (arith, has.count, inside))

  pub found : (o : Option (ℕ × ℕ)) → FindsFirst lasts o → FindsShared writes ps o
  found None none = λ i j less shares.
      let inside : j < length ps = slice_get_within ps j shares.1 shares.3 in
      let at_j = last_of j inside in
      has.each j None (at_j ∙ ap Some (none j (get_or lasts j None) at_j)) i less shares
  found (Some p) (here, before) =
      let last : IsLastShared writes ps p.1 (Some p.0) = has.each p.1 (Some p.0) here in
      record {
        before = last.0;
        shares = last.1;
        least = λ x y less shares. elim (cases_lt y p.1) [
          | inl earlier ↦
              let inside : y < length ps = slice_get_within ps y shares.1 shares.3 in
              let at_y = last_of y inside in
              absurd (has.each y None (at_y ∙ ap Some (before y (get_or lasts y None) earlier at_y)) x less shares)
          | inr not_earlier ↦ not_earlier
        ];
        greatest = λ x less shares. last.2 x less shares;
      }
