-- What is found and noted, store by store.
use Rattle.std.proofs.Common.{◌≡◌, ◌↔◌, ℕ, ◌+◌, ◌*◌, ◌/◌, ◌^◌, ◌<◌, ◌≤◌, ◌⊎◌, inl, inr, Bool, true, false, ◌&&◌, Option, Some, None, List, slice_index, get_or, refl, sym, ap, subst, arith}
use Rattle.std.specs.Int.{bit_at}
use Rattle.std.proofs.lemmas.Bool.{cases_eq, cases_lt}
use Rattle.dsa_descriptor.specs.declared.span.Span.{Span}
use Rattle.dsa_descriptor.specs.Spans.{InSome}
use Rattle.dsa_ranges.specs.Ranges.{SpansConflict}
use Rattle.dsa_tracker.specs.declared.grid.Grid.{Grid}
use Rattle.dsa_tracker.specs.declared.slots.Slots.{Slots}
use Rattle.dsa_tracker.specs.Finding.{AreCovered, AreNoted, ConflictsHere, ConflictsWithSpans, ConflictsWithStore, Covers, Marks, MayConflict, reads_store, writes_store}
use Rattle.dsa_tracker.specs.Kept.{Meet, Touches, kept, kept_count}
use Rattle.dsa_tracker.specs.Rows.{Holds, IsNoted, IsSought}
use Rattle.dsa_tracker.specs.Sets.{Has}
use Rattle.dsa_tracker.specs.Table.{IsExactly, IsWithout}
use Rattle.dsa_tracker.proofs.Bits.{not_above}
use Rattle.dsa_tracker.proofs.RowBits.{noted_still}
use Rattle.dsa_tracker.proofs.Stored.{in_kept, span_here}

abbrev Decided : Type 0 → Type 0
Decided A = A ⊎ (A → ⊥)

pub has : (set : Slots) (k : ℕ) → Has set k ⊎ (Has set k → ⊥)
has set k = elim (cases_lt 0 (bit_at set.0 k)) [ inl set ↦ inl set | inr none ↦ inr (λ h. omega (arith, none, h)) ]

-- what a slot keeps conflicts with one of the first n spans of this store
abbrev pub ConflictsBelow : ℕ → List ℕ → Bool → List ℕ → ℕ → ℕ → Type 0
ConflictsBelow width stores is_written store n k = (i : ℕ) × (i < n) × ConflictsHere width stores is_written (slice_index store (2 * i + 1)) (slice_index store (2 * i + 2)) k

-- the units of the first n spans of this store are noted for the slot
abbrev pub AreNotedBelow : Grid → List ℕ → Bool → List ℕ → ℕ → ℕ → Type 0
AreNotedBelow grid rows is_written store n slot =
    (i a : ℕ) → i < n → slice_index store (2 * i + 1) ≤ a → a ≤ slice_index store (2 * i + 2) → IsNoted grid rows is_written (a / 2 ^ grid.log2_unit) slot

-- one span more, of which what is sought among the candidates that are not found yet was found
module _ (A F G K : Type 0) (C : ℕ → Type 0) (n : ℕ) where
  abbrev Below : ℕ → Type 0
  Below m = (i : ℕ) × (i < m) × C i

  pub found_more : (F ⊎ (F → ⊥)) → F ↔ (A × Below n) → (K → A) → (A → C n → K) → G ↔ (F ⊎ ((K × (F → ⊥)) × C n)) → G ↔ (A × Below (n + 1))
  found_more decided so_far within complete more = (there, back)
    where
      there : G → A × Below (n + 1)
      there g =
          elim (more.0 g) [
            | inl f ↦ let was = so_far.0 f in let lt = was.1.1 in (was.0, (was.1.0, omega (arith, lt), was.1.2))
            | inr new ↦ (within new.0.0, (n, omega arith, new.1))
          ]

      back : A × Below (n + 1) → G
      back h =
          let lt = h.1.1 in
          elim decided [
            | inl f ↦ more.1 (inl f)
            | inr not_yet ↦
                elim (cases_eq h.1.0 n) [
                  | inl same ↦ let here : C n = subst C same h.1.2 in more.1 (inr ((complete h.0 here, not_yet), here))
                  | inr apart ↦ absurd (not_yet (so_far.1 (h.0, (h.1.0, omega (arith, lt, apart), h.1.2))))
                ]
          ]

  -- none of the candidates is left
  pub found_enough : (F ⊎ (F → ⊥)) → F ↔ (A × Below n) → (A → C n → K) → (K × (F → ⊥) → ⊥) → F ↔ (A × Below (n + 1))
  found_enough decided so_far complete none = (
    λ f. let was = so_far.0 f in let lt = was.1.1 in (was.0, (was.1.0, omega (arith, lt), was.1.2)),
    λ h. let lt = h.1.1 in elim decided [
      | inl f ↦ f
      | inr not_yet ↦ elim (cases_eq h.1.0 n) [
        | inl same ↦ absurd (none (complete h.0 (subst C same h.1.2), not_yet))
        | inr apart ↦ absurd (not_yet (so_far.1 (h.0, (h.1.0, omega (arith, lt, apart), h.1.2))))
      ]
    ],
  )

-- a conflict is where the rows say
pub sought_here :
    (width : ℕ) (stores : List ℕ) (grid : Grid) (rows : List ℕ) (wide : Slots) (is_written : Bool) (first last k : ℕ) →
    Covers grid rows wide (kept (reads_store width stores k)) (kept (writes_store width stores k)) k → ConflictsHere width stores is_written first last k →
    Has wide k ⊎ ((a : ℕ) × (first ≤ a) × (a ≤ last) × IsSought grid rows is_written (a / 2 ^ grid.log2_unit) k)
sought_here width stores grid rows wide is_written first last k (inl is_wide) h = inl is_wide
sought_here width stores grid rows wide false first last k (inr marks) h = inr (h.0, h.1, h.2, marks.1 h.0 h.3)
sought_here width stores grid rows wide true first last k (inr marks) (inl h) = inr (h.0, h.1, h.2, marks.0 h.0 (inr h.3))
sought_here width stores grid rows wide true first last k (inr marks) (inr h) = inr (h.0, h.1, h.2, marks.0 h.0 (inl h.3))

-- what is kept has the addresses of its spans
module _ (store : List ℕ) (n : ℕ) (is : kept_count store ≡ n) where
  pub kept_at_some : (a : ℕ) → InSome (kept store) a → (i : ℕ) × (i < n) × (slice_index store (2 * i + 1) ≤ a) × (a ≤ slice_index store (2 * i + 2))
  kept_at_some a h =
      let at = (in_kept store n a is).0 h in
      let here = (span_here store at.0 (get_or store (2 * at.0 + 1) 0) (get_or store (2 * at.0 + 2) 0) a (ap (λ (k : ℕ). get_or store k 0) (omega arith)) (ap (λ (k : ℕ). get_or store k 0) (omega arith))).0 at.2 in
      (at.0, at.1, here.0, here.1)

  pub some_is_kept : (i a : ℕ) → i < n → slice_index store (2 * i + 1) ≤ a → a ≤ slice_index store (2 * i + 2) → InSome (kept store) a
  some_is_kept i a lt from to =
      (in_kept store n a is).1
      (i, lt, (span_here store i (get_or store (2 * i + 1) 0) (get_or store (2 * i + 2) 0) a (ap (λ (k : ℕ). get_or store k 0) (omega arith)) (ap (λ (k : ℕ). get_or store k 0) (omega arith))).1 (from, to))

  -- a conflict with one of all spans is one with the store
  touches_one : (other : List ℕ) → ((i : ℕ) × (i < n) × Touches other (slice_index store (2 * i + 1)) (slice_index store (2 * i + 2))) ↔ Meet other store
  touches_one other = (
    λ h. let t = h.2 in (t.0, t.3, some_is_kept h.0 t.0 h.1 t.1 t.2),
    λ h. let at = kept_at_some h.0 h.2 in (at.0, at.1, (h.0, at.2, at.3, h.1)),
  )

  pub conflicts_below : (width : ℕ) (stores : List ℕ) (is_written : Bool) (k : ℕ) → ConflictsBelow width stores is_written store n k ↔ ConflictsWithStore width stores is_written store k
  conflicts_below width stores false k = touches_one (writes_store width stores k)
  conflicts_below width stores true k = (
    λ h. elim h.2 [
      | inl w ↦ inl ((touches_one (writes_store width stores k)).0 (h.0, h.1, w))
      | inr r ↦ inr ((touches_one (reads_store width stores k)).0 (h.0, h.1, r))
    ],
    λ h. elim h [
      | inl w ↦ let at = (touches_one (writes_store width stores k)).1 w in (at.0, at.1, inl at.2)
      | inr r ↦ let at = (touches_one (reads_store width stores k)).1 r in (at.0, at.1, inr at.2)
    ],
  )

  pub noted_below : (grid : Grid) (rows : List ℕ) (is_written : Bool) (slot : ℕ) → AreNotedBelow grid rows is_written store n slot → AreNoted grid rows is_written store slot
  noted_below grid rows is_written slot all a h = let at = kept_at_some a h in all at.0 a at.1 at.2 at.3

-- a conflict of spans is one of the reads or one of the writes
pub conflict_parts : (width : ℕ) (stores reads writes : List ℕ) (k : ℕ) → SpansConflict (kept (reads_store width stores k)) (kept (writes_store width stores k)) (kept reads) (kept writes) ↔ (ConflictsWithStore width stores false reads k ⊎ ConflictsWithStore width stores true writes k)
conflict_parts width stores reads writes k = (
  λ h. elim h [
    | inl into ↦ elim into.2 [ inl r ↦ inl (into.0, into.1, r) | inr w ↦ inr (inl (into.0, into.1, w)) ]
    | inr into ↦ elim into.2 [ inl r ↦ inr (inr (into.0, r, into.1)) | inr w ↦ inr (inl (into.0, w, into.1)) ]
  ],
  λ h. elim h [
    | inl m ↦ inl (m.0, m.1, inl m.2)
    | inr m ↦ elim m [ inl w ↦ inl (w.0, w.1, inr w.2) | inr r ↦ inr (r.0, r.2, inl r.1) ]
  ],
)

pub span_parts : (width : ℕ) (stores : List ℕ) (reads writes : List Span) (k : ℕ) → SpansConflict (kept (reads_store width stores k)) (kept (writes_store width stores k)) reads writes ↔ (ConflictsWithSpans width stores false reads k ⊎ ConflictsWithSpans width stores true writes k)
span_parts width stores reads writes k = (
  λ h. elim h [
    | inl into ↦ elim into.2 [ inl r ↦ inl (into.0, into.1, r) | inr w ↦ inr (inl (into.0, into.1, w)) ]
    | inr into ↦ elim into.2 [ inl r ↦ inr (inr (into.0, r, into.1)) | inr w ↦ inr (inl (into.0, w, into.1)) ]
  ],
  λ h. elim h [
    | inl m ↦ inl (m.0, m.1, inl m.2)
    | inr m ↦ elim m [ inl w ↦ inl (w.0, w.1, inr w.2) | inr r ↦ inr (r.0, r.2, inl r.1) ]
  ],
)

-- rows that keep the bits of these slots still cover them
pub covered_still :
    (width : ℕ) (stores : List ℕ) (grid : Grid) (rows new : List ℕ) (wide wide' among among' : Slots) → AreCovered width stores grid rows wide among →
    ((k : ℕ) → Has among' k → Has among k) → ((k : ℕ) → Has among' k → Has wide k → Has wide' k) →
    ((r k : ℕ) → Has among' k → Holds rows r k → Holds new r k) → AreCovered width stores grid new wide' among'
covered_still width stores grid rows new wide wide' among among' covered within widens stays k in_it =
    elim (covered k (within k in_it)) [
      | inl is_wide ↦ inl (widens k in_it is_wide)
      | inr marks ↦ inr (λ a h. let m = marks.0 a h in (stays _ k in_it m.0, stays _ k in_it m.1), λ a h. let m = marks.1 a h in (stays _ k in_it m.0, stays _ k in_it m.1))
    ]

pub marks_of : (grid : Grid) (rows rows' reads writes : List ℕ) (slot : ℕ) → ((k : ℕ) → Holds rows k slot → Holds rows' k slot) → AreNoted grid rows false reads slot → AreNoted grid rows' true writes slot → Marks grid rows' (kept reads) (kept writes) slot
marks_of grid rows rows' reads writes slot stays read written = (
  λ a h. elim h [ inl r ↦ noted_still grid rows rows' false (a / 2 ^ grid.log2_unit) slot stays (read a r) | inr w ↦ (written a w).0 ],
  λ a h. (written a h).1,
)

-- a walk over a set of slots: what was found among those that are not left
module _ (among found rest rest' : Slots) (T : ℕ → Type 0) (slot : ℕ) (is_in : Has rest slot) (without : IsWithout rest slot rest') where
  abbrev FoundBefore : Slots → Slots → Type 0
  FoundBefore have left = (k : ℕ) → Has have k ↔ (Has among k × (¬ Has left k) × T k)

  pub left_still : ((k : ℕ) → Has rest k → Has among k) → (k : ℕ) → Has rest' k → Has among k
  left_still within k h = within k ((without k).0 h).0

  pub not_this : (T slot → ⊥) → ((k : ℕ) → Has rest k → Has among k) → FoundBefore found rest → FoundBefore found rest'
  not_this never within so_far k = (
    λ h. let was = (so_far k).0 h in (was.0, λ left. was.1 ((without k).0 left).0, was.2),
    λ h. elim (has rest k) [
      | inl left ↦ absurd (h.1 ((without k).1 (left, λ same. never (subst T same h.2))))
      | inr gone ↦ (so_far k).1 (h.0, gone, h.2)
    ],
  )

  pub this_too : T slot → ((k : ℕ) → Has rest k → Has among k) → (more : Slots) → ((k : ℕ) → Has more k ↔ (Has found k ⊎ (k ≡ slot))) → FoundBefore found rest → FoundBefore more rest'
  this_too holds within more with so_far k = (
    λ h. elim ((with k).0 h) [
      | inl before ↦ let was = (so_far k).0 before in (was.0, λ left. was.1 ((without k).0 left).0, was.2)
      | inr same ↦ (within k (subst (λ n. Has rest n) (sym same) is_in), λ left. ((without k).0 left).1 same, subst T (sym same) holds)
    ],
    λ h. elim (has rest k) [
      | inl left ↦ elim (cases_eq k slot) [
        | inl same ↦ (with k).1 (inr same)
        | inr apart ↦ absurd (h.1 ((without k).1 (left, apart)))
      ]
      | inr gone ↦ (with k).1 (inl ((so_far k).1 (h.0, gone, h.2)))
    ],
  )

-- conflicts of two kinds, found one after the other
pub either_kind : (among first others second both : Slots) (P Q : ℕ → Type 0) → IsExactly first (λ k. Has among k × P k) → ((k : ℕ) → Has others k ↔ (Has among k × (¬ Has first k))) → IsExactly second (λ k. Has others k × Q k) → ((k : ℕ) → Has both k ↔ (Has first k ⊎ Has second k)) → IsExactly both (λ k. Has among k × (P k ⊎ Q k))
either_kind among first others second both P Q one rest two union k = (
  λ h. elim ((union k).0 h) [
    | inl f ↦ let p = (one k).0 f in (p.0, inl p.1)
    | inr g ↦ let q = (two k).0 g in (((rest k).0 q.0).0, inr q.1)
  ],
  λ h. elim h.1 [
    | inl p ↦ (union k).1 (inl ((one k).1 (h.0, p)))
    | inr q ↦ elim (has first k) [
      | inl f ↦ (union k).1 (inl f)
      | inr not ↦ (union k).1 (inr ((two k).1 ((rest k).1 (h.0, not), q)))
    ]
  ],
)

pub all_low : (set : Slots) → set.0 < 2 ^ 64 → (k : ℕ) → Has set k → k < 64
all_low set small k h = elim (cases_lt k 64) [ inl low ↦ low | inr high ↦ absurd (not_above set.0 k small (omega (arith, high)) h) ]

pub first_of : (a b : Bool) → a && b ≡ true → a ≡ true
first_of true b h = refl
first_of false b h = h

pub second_of : (a b : Bool) → a && b ≡ true → b ≡ true
second_of true b h = h
second_of false b h = cc

-- a slot in conflict is among the candidates, if what was noted has each slot that is sought
pub may_conflict :
    (width : ℕ) (stores : List ℕ) (grid : Grid) (rows : List ℕ) (wide : Slots) (is_written : Bool) (first last k : ℕ) (noted : Option ℕ) →
    ((found : ℕ) → noted ≡ Some found → (a : ℕ) → first ≤ a → a ≤ last → IsSought grid rows is_written (a / 2 ^ grid.log2_unit) k → 0 < bit_at found k) →
    Covers grid rows wide (kept (reads_store width stores k)) (kept (writes_store width stores k)) k →
    ConflictsHere width stores is_written first last k → MayConflict wide noted k
may_conflict width stores grid rows wide is_written first last k None found covers h = tt
may_conflict width stores grid rows wide is_written first last k (Some n) found covers h =
    elim (sought_here width stores grid rows wide is_written first last k covers h) [
      | inl is_wide ↦ inr is_wide
      | inr at ↦ inl (found n refl at.0 at.1 at.2 at.3)
    ]
