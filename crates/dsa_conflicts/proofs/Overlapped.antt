-- Last conflicts that are noted from overlaps of all that the pieces of a list touch.
use Rattle.std.proofs.Common.{◌≡◌, ℕ, zero, suc, ◌+◌, ◌<◌, ◌≤◌, List, length, refl, sym, ap, subst, ◌∙◌, arith, inl, inr, ◌⊎◌}
use Rattle.std.specs.Prelude.{All, Option, Some, None, slice_get}
use Rattle.std.specs.List.Sorted.{IsNonDecreasingBy}
use Rattle.std.proofs.Math.ListN.{replicate}
use Rattle.std.proofs.lemmas.Bool.{cases_order}
use Rattle.std.proofs.lemmas.Option.{same_Some, slice_get_within, get_or_from_slice_get}
use Rattle.std.proofs.lemmas.List.Elements.{All-weaker}
use Rattle.dsa_descriptor.specs.declared.span.Span.{Span}
use Rattle.dsa_descriptor.specs.Spans.{InSpan}
use Rattle.dsa_ranges.specs.Ranges.{SpansConflict}
use Rattle.dsa_ranges.specs.Pieces.{PieceConflictAt}
use Rattle.dsa_conflicts.specs.declared.access.Access.{Access}
use Rattle.dsa_conflicts.specs.declared.access.Access.TheVariants.{Read, Write}
use Rattle.dsa_conflicts.specs.declared.touches.Touch.{Touch}
use Rattle.dsa_conflicts.specs.Last.{HasLastsBy, IsBack, IsLastBy}
use Rattle.dsa_conflicts.specs.Touches.{Accesses, HasTouches, IsTouchOf, spans_by, touch}
use Rattle.dsa_conflicts.specs.Overlaps.{BeginsIn, ClashAmong, Notes, last_at}
use Rattle.dsa_conflicts.proofs.Held.{Among, among_some, some_among}
use Rattle.dsa_conflicts.proofs.Touching.{at_contains}

-- nothing is noted at first
pub none_at : (n b : ℕ) → last_at (replicate n None) b ≡ None
none_at zero b = refl
none_at (suc n) zero = refl
none_at (suc n) (suc b) = none_at n b

-- pieces of any kind, of which each reads and writes some spans
module _ {P : Type 0} (reads writes : P → List Span) where
  -- two accesses of one address, of which one writes, are a conflict
  accesses_conflict : (f g : P) (A B : Access) (s t : Span) (x : ℕ) → Among (spans_by reads writes A f) s → Among (spans_by reads writes B g) t → InSpan s x → InSpan t x → (A ≡ Write) ⊎ (B ≡ Write) → SpansConflict (reads f) (writes f) (reads g) (writes g)
  accesses_conflict f g Read Read s t x a b in_s in_t (inl e) = absurd cc
  accesses_conflict f g Read Read s t x a b in_s in_t (inr e) = absurd cc
  accesses_conflict f g Read Write s t x a b in_s in_t either = inr (x, among_some (writes g) b.0 t x b.1 in_t, inl (among_some (reads f) a.0 s x a.1 in_s))
  accesses_conflict f g Write Read s t x a b in_s in_t either = inl (x, among_some (writes f) a.0 s x a.1 in_s, inl (among_some (reads g) b.0 t x b.1 in_t))
  accesses_conflict f g Write Write s t x a b in_s in_t either = inl (x, among_some (writes f) a.0 s x a.1 in_s, inr (among_some (writes g) b.0 t x b.1 in_t))

  -- accesses are of pieces of the list
  pub touches_within : (ps : List P) (touches : List Touch) → All (IsTouchOf reads writes ps) touches → All (λ t. t.piece < length ps) touches
  touches_within ps touches known = All-weaker (IsTouchOf reads writes ps) (λ t. t.piece < length ps) (λ t h. slice_get_within ps t.piece h.0 h.1) touches known

  module _ (ps : List P) (touches : List Touch) (known : All (IsTouchOf reads writes ps) touches) (window : ℕ) where
    known_at : (p : ℕ) (t : Touch) → slice_get touches p ≡ Some t → IsTouchOf reads writes ps t
    known_at p t at = subst (IsTouchOf reads writes ps) (get_or_from_slice_get touches p t t at) (known p t (slice_get_within touches p t at))

    -- what is noted conflicts
    clash_conflicts : (n b a : ℕ) → ClashAmong touches window n b a → IsBack (PieceConflictAt reads writes ps) window b a
    clash_conflicts n b a (p, lt, h) =
        let t = h.here in
        let u = h.there in
        let one = known_at p t h.at_here in
        let two = known_at h.place u h.at_there in
        let in_t : InSpan t.span u.span.first = h.begins in
        let in_u : InSpan u.span u.span.first = (omega arith, omega (arith, h.clash.some)) in
        record {
          before = h.clash.before;
          within = h.clash.within;
          conflict = elim h.clash.pieces [
            | inl w ↦ (
              one.0,
              two.0,
              subst (λ (i : ℕ). slice_get ps i ≡ Some one.0) w.0 one.1,
              subst (λ (i : ℕ). slice_get ps i ≡ Some two.0) w.1 two.1,
              accesses_conflict one.0 two.0 t.access u.access t.span u.span u.span.first one.2 two.2 in_t in_u h.clash.writes,
            )
            | inr w ↦ (
              two.0,
              one.0,
              subst (λ (i : ℕ). slice_get ps i ≡ Some two.0) w.0 two.1,
              subst (λ (i : ℕ). slice_get ps i ≡ Some one.0) w.1 one.1,
              accesses_conflict two.0 one.0 u.access t.access u.span t.span u.span.first two.2 one.2 in_u in_t (elim h.clash.writes [ inl x ↦ inr x | inr y ↦ inl y ]),
            )
          ];
        }

    module _ (sorted : IsNonDecreasingBy (λ (t : Touch). t.span.first) touches) (all : HasTouches reads writes touches ps (length ps)) where
      -- two accesses of one address, in the order in which they begin
      begins_first : (p q : ℕ) (t u : Touch) (x : ℕ) → p < q → slice_get touches p ≡ Some t → slice_get touches q ≡ Some u → InSpan t.span x → InSpan u.span x → BeginsIn t u
      begins_first p q t u x lt at_p at_q in_t in_u =
          let up = sorted p q t (omega (arith, lt)) (slice_get_within touches q u at_q) in
          let is_t = ap (λ (y : Touch). y.span.first) (get_or_from_slice_get touches p t t at_p) in
          let is_u = ap (λ (y : Touch). y.span.first) (get_or_from_slice_get touches q u t at_q) in
          (omega (arith, up, is_t, is_u), omega (arith, in_t.1, in_u.0))

      clash_of : (b a : ℕ) → a < b → b ≤ a + window → (A B : Access) (s t : Span) (x : ℕ) → a < length ps → b < length ps → Accesses reads writes ps a A s → Accesses reads writes ps b B t → InSpan s x → InSpan t x → (A ≡ Write) ⊎ (B ≡ Write) → ClashAmong touches window (length touches) b a
      clash_of b a before within A B s t x a_in b_in one two in_s in_t either =
          let S : Touch = touch a A s in
          let T : Touch = touch b B t in
          let p = at_contains touches S (all a A s a_in one) in
          let q = at_contains touches T (all b B t b_in two) in
          let p_in = slice_get_within touches p.0 S p.1 in
          let q_in = slice_get_within touches q.0 T q.1 in
          let some_s : 0 < s.len = omega (arith, in_s.0, in_s.1) in
          let some_t : 0 < t.len = omega (arith, in_t.0, in_t.1) in
          elim (cases_order p.0 q.0) [
            | inl same ↦
                let is : S ≡ T = same_Some S T (sym p.1 ∙ (ap (slice_get touches) same ∙ q.1)) in
                let never : a ≡ b = ap (λ (y : Touch). y.piece) is in
                absurd (omega (arith, never, before))
            | inr (inl lt) ↦ (
              p.0,
              p_in,
              record {
                place = q.0;
                here = S;
                there = T;
                after = lt;
                in_reach = q_in;
                at_here = p.1;
                at_there = q.1;
                begins = begins_first p.0 q.0 S T x lt p.1 q.1 in_s in_t;
                clash = record { some = some_t; writes = either; pieces = inl (refl, refl); before = before; within = within };
              },
            )
            | inr (inr gt) ↦ (
              q.0,
              q_in,
              record {
                place = p.0;
                here = T;
                there = S;
                after = gt;
                in_reach = p_in;
                at_here = q.1;
                at_there = p.1;
                begins = begins_first q.0 p.0 T S x gt q.1 p.1 in_t in_s;
                clash = record { some = some_s; writes = elim either [ inl w ↦ inr w | inr w ↦ inl w ]; pieces = inr (refl, refl); before = before; within = within };
              },
            )
          ]

      -- and what conflicts is noted
      conflict_clashes : (b a : ℕ) → IsBack (PieceConflictAt reads writes ps) window b a → ClashAmong touches window (length touches) b a
      conflict_clashes b a back =
          let d = back.conflict.0 in
          let e = back.conflict.1 in
          let at_a = back.conflict.2 in
          let at_b = back.conflict.3 in
          let a_in = slice_get_within ps a d at_a in
          let b_in = slice_get_within ps b e at_b in
          let go = clash_of b a back.before back.within in
          elim back.conflict.4 [
            | inl (x, does, either) ↦
                let s = some_among (writes d) x does in
                elim either [
                  | inl read ↦ let t = some_among (reads e) x read in go Write Read s.0 t.0 x a_in b_in (d, at_a, s.1) (e, at_b, t.1) s.2 t.2 (inl refl)
                  | inr written ↦ let t = some_among (writes e) x written in go Write Write s.0 t.0 x a_in b_in (d, at_a, s.1) (e, at_b, t.1) s.2 t.2 (inl refl)
                ]
            | inr (x, does, either) ↦
                let t = some_among (writes e) x does in
                elim either [
                  | inl read ↦ let s = some_among (reads d) x read in go Read Write s.0 t.0 x a_in b_in (d, at_a, s.1) (e, at_b, t.1) s.2 t.2 (inr refl)
                  | inr written ↦ let s = some_among (writes d) x written in go Write Write s.0 t.0 x a_in b_in (d, at_a, s.1) (e, at_b, t.1) s.2 t.2 (inl refl)
                ]
          ]

      -- so each piece has its last conflict
      module _ (old new : List (Option ℕ)) (none : (b : ℕ) → last_at old b ≡ None) (notes : Notes (ClashAmong touches window (length touches)) old new) where
        is_last : (b : ℕ) (last : Option ℕ) → last_at new b ≡ last → IsLastBy (PieceConflictAt reads writes ps) window b last
        is_last b None e = λ other back.
            let reach = notes.noted b other (conflict_clashes b other back) in
            let never : Some reach.0 ≡ None = sym reach.1 ∙ e in
            absurd cc
        is_last b (Some a) e = (
          elim (notes.known b a e) [
            | inl was ↦ let never : Some a ≡ None = sym was ∙ none b in absurd cc
            | inr clash ↦ clash_conflicts (length touches) b a clash
          ],
          λ other back.
              let reach = notes.noted b other (conflict_clashes b other back) in
              let same : reach.0 ≡ a = same_Some reach.0 a (sym reach.1 ∙ e) in
              omega (arith, same, reach.2),
        )

        pub overlaps_are_lasts : length old ≡ length ps → HasLastsBy (PieceConflictAt reads writes ps) (length ps) window new
        overlaps_are_lasts count = record {
          count = notes.count ∙ count;
          each = λ b last e. is_last b last (get_or_from_slice_get new b last None e);
        }
