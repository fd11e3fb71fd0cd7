-- Notes of last conflicts, from accesses that overlap.
use Rattle.std.proofs.Common.{◌≡◌, ℕ, ◌+◌, ◌<◌, ◌≤◌, List, length, max, min, refl, sym, ap, subst, ◌∙◌, arith, inl, inr, ◌⊎◌}
use Rattle.std.specs.Prelude.{Option, Some, None, slice_get, slice_set}
use Rattle.std.specs.List.Sorted.{IsNonDecreasingBy}
use Rattle.std.proofs.Math.ListN.{length-set}
use Rattle.std.proofs.lemmas.Bool.{cases_lt, cases_eq}
use Rattle.std.proofs.lemmas.Grind.{get_or-set_at}
use Rattle.std.proofs.lemmas.List.{get_or-set_other}
use Rattle.std.proofs.lemmas.Option.{same_Some, slice_get_within, get_or_from_slice_get}
use Rattle.dsa_conflicts.specs.declared.access.Access.TheVariants.{Write}
use Rattle.dsa_conflicts.specs.declared.touches.Touch.{Touch}
use Rattle.dsa_conflicts.specs.Access.{later}
use Rattle.dsa_conflicts.specs.Overlaps.{AreBy, BeginsIn, Clash, ClashAmong, ClashFrom, Notes, last_at}
use Rattle.dsa_conflicts.proofs.Greatest.{later_first, later_is, later_second}

-- nothing to note
pub notes_none : (P : ℕ → ℕ → Type 0) (old : List (Option ℕ)) → ((b a : ℕ) → P b a → ⊥) → Notes P old old
notes_none P old none = record { count = refl; kept = λ b a h. h; noted = λ b a p. absurd (none b a p); known = λ b a e. inl e }

-- the same of conflicts that are said in another way
pub notes_as : (P Q : ℕ → ℕ → Type 0) (old new : List (Option ℕ)) → ((b a : ℕ) → P b a → Q b a) → ((b a : ℕ) → Q b a → P b a) → Notes P old new → Notes Q old new
notes_as P Q old new to from h = record {
  count = h.count;
  kept = h.kept;
  noted = λ b a q. h.noted b a (from b a q);
  known = λ b a e. elim (h.known b a e) [ inl was ↦ inl was | inr p ↦ inr (to b a p) ];
}

-- notes in turn
pub notes_both : (P Q R : ℕ → ℕ → Type 0) (old mid new : List (Option ℕ)) → ((b a : ℕ) → R b a → P b a ⊎ Q b a) → ((b a : ℕ) → P b a → R b a) → ((b a : ℕ) → Q b a → R b a) → Notes P old mid → Notes Q mid new → Notes R old new
notes_both P Q R old mid new parts from_p from_q one two = record {
  count = two.count ∙ one.count;
  kept = λ b a h. two.kept b a (one.kept b a h);
  noted = λ b a r. elim (parts b a r) [ inl p ↦ two.kept b a (one.noted b a p) | inr q ↦ two.noted b a q ];
  known = λ b a e. elim (two.known b a e) [
    | inl was ↦ elim (one.known b a was) [ inl before ↦ inl before | inr p ↦ inr (from_p b a p) ]
    | inr q ↦ inr (from_q b a q)
  ];
}

-- the pieces of a conflict are the earlier and the later one
clash_is : (window : ℕ) (t u : Touch) (b a : ℕ) → Clash window t u b a → (a ≡ min t.piece u.piece) × (b ≡ max t.piece u.piece)
clash_is window t u b a h =
    elim h.pieces [
      | inl w ↦ (omega (arith, w.0, w.1, h.before), omega (arith, w.0, w.1, h.before))
      | inr w ↦ (omega (arith, w.0, w.1, h.before), omega (arith, w.0, w.1, h.before))
    ]

are_by : (t u : Touch) (a b : ℕ) → a ≡ min t.piece u.piece → b ≡ max t.piece u.piece → AreBy t u a b
are_by t u a b low high =
    elim (cases_lt t.piece u.piece) [
      | inl lt ↦ inl (omega (arith, low), omega (arith, high))
      | inr ge ↦ inr (omega (arith, low), omega (arith, high))
    ]

-- one conflict is noted
module _ (window : ℕ) (t u : Touch) (old : List (Option ℕ)) (first second : ℕ) (low : first ≡ min t.piece u.piece) (high : second ≡ max t.piece u.piece) (in' : second < length old) where
  pub notes_clash : 0 < u.span.len → (t.access ≡ Write) ⊎ (u.access ≡ Write) → first < second → second ≤ first + window → (v : Option ℕ) → v ≡ later (last_at old second) (Some first) → Notes (Clash window t u) old (slice_set old second v)
  notes_clash some writes before within v is =
      let there : (b : ℕ) → b ≡ second → last_at (slice_set old second v) b ≡ later (last_at old second) (Some first) = λ b same. get_or-set_at old second b v None same in' ∙ is in
      let elsewhere : (b : ℕ) → (b ≡ second → ⊥) → last_at (slice_set old second v) b ≡ last_at old b = λ b apart. get_or-set_other old second b v None apart in
      record {
        count = length-set old second v;
        kept = λ b a h. elim (cases_eq b second) [
          | inl same ↦
              let w = later_first (last_at old second) (Some first) h.0 (ap (last_at old) (sym same) ∙ h.1) in
              (w.0, there b same ∙ w.1, omega (arith, w.2, h.2))
          | inr apart ↦ (h.0, elsewhere b apart ∙ h.1, h.2)
        ];
        noted = λ b a clash.
            let are = clash_is window t u b a clash in
            let w = later_second (last_at old second) (Some first) first refl in
            (w.0, there b (are.1 ∙ sym high) ∙ w.1, omega (arith, w.2, are.0, low));
        known = λ b a e. elim (cases_eq b second) [
          | inl same ↦ elim (later_is (last_at old second) (Some first) a (sym (there b same) ∙ e)) [
            | inl was ↦ inl (ap (last_at old) same ∙ was)
            | inr new ↦
                let is_first : first ≡ a = same_Some first a new in
                inr (record {
                  some = some;
                  writes = writes;
                  pieces = are_by t u a b (sym is_first ∙ low) (same ∙ high);
                  before = omega (arith, is_first, same, before);
                  within = omega (arith, is_first, same, within);
                })
          ]
          | inr apart ↦ inl (sym (elsewhere b apart) ∙ e)
        ];
      }

module _ (touches : List Touch) (window p : ℕ) (t : Touch) (at : slice_get touches p ≡ Some t) (old : List (Option ℕ)) where
  -- one access more that begins in that of the place
  pub notes_next : (q : ℕ) (u : Touch) → p < q → slice_get touches q ≡ Some u → BeginsIn t u → (mid new : List (Option ℕ)) → Notes (ClashFrom touches window p q) old mid → Notes (Clash window t u) mid new → Notes (ClashFrom touches window p (q + 1)) old new
  notes_next q u after at_u begins mid new =
      notes_both (ClashFrom touches window p q) (Clash window t u) (ClashFrom touches window p (q + 1)) old mid new
      (λ b a h. elim (cases_eq h.place q) [
        | inl same ↦
            let is_t : h.here ≡ t = same_Some h.here t (sym h.at_here ∙ at) in
            let is_u : h.there ≡ u = same_Some h.there u (sym h.at_there ∙ (ap (slice_get touches) same ∙ at_u)) in
            inr (subst (λ (x : Touch). Clash window t x b a) is_u (subst (λ (x : Touch). Clash window x h.there b a) is_t h.clash))
        | inr apart ↦
            inl (record { place = h.place; here = h.here; there = h.there; after = h.after; in_reach = omega (arith, h.in_reach, apart); at_here = h.at_here; at_there = h.at_there; begins = h.begins; clash = h.clash })
      ])
      (λ b a h. record { place = h.place; here = h.here; there = h.there; after = h.after; in_reach = omega (arith, h.in_reach); at_here = h.at_here; at_there = h.at_there; begins = h.begins; clash = h.clash })
      (λ b a clash. record { place = q; here = t; there = u; after = after; in_reach = omega arith; at_here = at; at_there = at_u; begins = begins; clash = clash })

  -- if one does not begin in it, none after that one does
  pub notes_last : IsNonDecreasingBy (λ (x : Touch). x.span.first) touches → (q : ℕ) (u : Touch) → p < q → slice_get touches q ≡ Some u → (BeginsIn t u → ⊥) → (new : List (Option ℕ)) → Notes (ClashFrom touches window p q) old new
      → Notes (ClashFrom touches window p (length touches)) old new
  notes_last sorted q u after at_u out new =
      let in' : q < length touches = slice_get_within touches q u at_u in
      notes_as (ClashFrom touches window p q) (ClashFrom touches window p (length touches)) old new
      (λ b a h. record { place = h.place; here = h.here; there = h.there; after = h.after; in_reach = omega (arith, h.in_reach, in'); at_here = h.at_here; at_there = h.at_there; begins = h.begins; clash = h.clash })
      (λ b a h. elim (cases_lt h.place q) [
        | inl lt ↦ record { place = h.place; here = h.here; there = h.there; after = h.after; in_reach = lt; at_here = h.at_here; at_there = h.at_there; begins = h.begins; clash = h.clash }
        | inr ge ↦
            let is_t : h.here ≡ t = same_Some h.here t (sym h.at_here ∙ at) in
            let begins : BeginsIn t h.there = subst (λ (x : Touch). BeginsIn x h.there) is_t h.begins in
            let up = sorted q h.place u ge h.in_reach in
            let before = sorted p q u (omega (arith, after)) in' in
            let here_is = ap (λ (x : Touch). x.span.first) (get_or_from_slice_get touches p t u at) in
            let next_is = ap (λ (x : Touch). x.span.first) (get_or_from_slice_get touches q u u at_u) in
            let there_is = ap (λ (x : Touch). x.span.first) (get_or_from_slice_get touches h.place h.there u h.at_there) in
            absurd (out (omega (arith, before, here_is, next_is), omega (arith, up, next_is, there_is, begins.1)))
      ])

-- one place more
pub notes_place : (touches : List Touch) (window p : ℕ) (old mid new : List (Option ℕ)) → Notes (ClashAmong touches window p) old mid → Notes (ClashFrom touches window p (length touches)) mid new → Notes (ClashAmong touches window (p + 1)) old new
notes_place touches window p old mid new =
    notes_both (ClashAmong touches window p) (ClashFrom touches window p (length touches)) (ClashAmong touches window (p + 1)) old mid new
    (λ b a (k, lt, h). elim (cases_eq k p) [
      | inl same ↦ inr (subst (λ (n : ℕ). ClashFrom touches window n (length touches) b a) same h)
      | inr apart ↦ inl (k, omega (arith, lt, apart), h)
    ])
    (λ b a (k, lt, h). (k, omega (arith, lt), h))
    (λ b a h. (p, omega arith, h))
