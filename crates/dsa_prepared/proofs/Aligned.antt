-- Bases that keep their units and ties keep each operation aligned.
use Rattle.std.proofs.Common.{◌≡◌, ◌≢◌, ℕ, zero, suc, ◌+◌, ◌%◌, ◌^◌, ◌<◌, ◌≤◌, ◌⊎◌, inl, inr, max, List, [], ◌∷◌, ◌++◌, length, replicate, refl, sym, ap, subst, ◌∙◌, arith}
use Rattle.std.specs.Prelude.{⊤, slice_index}
use Rattle.std.specs.List.{AllByRecursion}
use Rattle.std.proofs.lemmas.Bool.{cases_order}
use Rattle.std.proofs.lemmas.List.{get_or-set_same, get_or-set_other, length-set}
use Rattle.dsa_descriptor.specs.declared.op.Op.{Op}
use Rattle.dsa_descriptor.specs.declared.op.Op.TheVariants.{Move, Fill, Compare, ComparePattern, ApplyDelta, Dualcast}
use Rattle.dsa_descriptor.specs.declared.span.Span.{Span}
use Rattle.dsa_descriptor.specs.Data.{targets}
use Rattle.dsa_descriptor.specs.Profile.{HasDeltaUnits, HasEqualLowBits}
use Rattle.dsa_descriptor.specs.Spans.{InSome, span}
use Rattle.dsa_operations.specs.declared.operation.Operation.{Operation}
use Rattle.dsa_operations.specs.declared.operation.Operation.TheVariants as operation
use Rattle.dsa_prepared.specs.Relocated.{relocated_op}
use Rattle.dsa_prepared.specs.Regions.{relocated, AllPiecesLie, LiesInOne, PieceLies}
use Rattle.dsa_prepared.specs.Listed.{HasAlignedDelta, IsAlignedThere}
use Rattle.dsa_prepared.specs.declared.tie.Tie.{Tie}
use Rattle.dsa_prepared.specs.Entries.{place_in}
use Rattle.dsa_prepared.specs.Sound.{IsUnit, AreUnits}
use Rattle.dsa_prepared.specs.Templates.{raised, op_asked, asked, units_from, op_ties, tied, ties_of}
use Rattle.dsa_prepared.specs.Preparing.{region_at, relocation}
use Rattle.dsa_prepared.specs.Filling.{AllBelow, IsAlignedBase, IsTied, IsTiedAt}
use Rattle.dsa_prepared.proofs.Words.{address_goes, first_has}
use Rattle.dsa_prepared.proofs.Spans.{place_holds}

-- ---- raising

raised_same : (us : List ℕ) (r v : ℕ) → r < length us → slice_index (raised us r v) r ≡ max (slice_index us r) v
raised_same us r v lt = get_or-set_same us r (max (slice_index us r) v) 0 lt

raised_other : (us : List ℕ) (r v i : ℕ) → i ≢ r → slice_index (raised us r v) i ≡ slice_index us i
raised_other us r v i ne = get_or-set_other us r i (max (slice_index us r) v) 0 ne

length-raised : (us : List ℕ) (r v : ℕ) → length (raised us r v) ≡ length us
length-raised us r v = length-set us r (max (slice_index us r) v)

-- a unit that is raised is not lowered
raised_keeps : (us : List ℕ) (r v i : ℕ) → i < length us → slice_index us i ≤ slice_index (raised us r v) i
raised_keeps us r v i lt =
    elim (cases_order i r) [
      | inl same ↦ let e : slice_index (raised us r v) i ≡ max (slice_index us i) v = rw same (raised_same us r v (omega (arith, same, lt))) in omega (arith, e)
      | inr (inl less) ↦ let ne : i ≢ r = omega arith in omega (arith, raised_other us r v i ne)
      | inr (inr more) ↦ let ne : i ≢ r = omega arith in omega (arith, raised_other us r v i ne)
    ]

max_unit : (u v : ℕ) → IsUnit u → IsUnit v → IsUnit (max u v)
max_unit u v (inl a) (inl b) = inl (omega (arith, a, b))
max_unit u v (inl a) (inr (inl b)) = inr (inl (omega (arith, a, b)))
max_unit u v (inl a) (inr (inr b)) = inr (inr (omega (arith, a, b)))
max_unit u v (inr (inl a)) (inl b) = inr (inl (omega (arith, a, b)))
max_unit u v (inr (inl a)) (inr (inl b)) = inr (inl (omega (arith, a, b)))
max_unit u v (inr (inl a)) (inr (inr b)) = inr (inr (omega (arith, a, b)))
max_unit u v (inr (inr a)) (inl b) = inr (inr (omega (arith, a, b)))
max_unit u v (inr (inr a)) (inr (inl b)) = inr (inr (omega (arith, a, b)))
max_unit u v (inr (inr a)) (inr (inr b)) = inr (inr (omega (arith, a, b)))

raised_units : (us : List ℕ) (r v : ℕ) → AreUnits us → IsUnit v → AreUnits (raised us r v)
raised_units us r v all unit i lt =
    let inside : i < length us = omega (arith, lt, length-raised us r v) in
    elim (cases_order i r) [
      | inl same ↦
          let e : max (slice_index us i) v ≡ slice_index (raised us r v) i = rw same (sym (raised_same us r v (omega (arith, same, inside)))) in
          subst IsUnit e (max_unit (slice_index us i) v (all i inside) unit)
      | inr (inl less) ↦ let ne : i ≢ r = omega arith in subst IsUnit (sym (raised_other us r v i ne)) (all i inside)
      | inr (inr more) ↦ let ne : i ≢ r = omega arith in subst IsUnit (sym (raised_other us r v i ne)) (all i inside)
    ]

-- ---- what operations ask for

op_length : (rs : List Span) (us : List ℕ) (op : Op) → length (op_asked rs us op) ≡ length us
op_length rs us (Move src dst) = refl
op_length rs us (Fill pattern dst) = refl
op_length rs us (Compare src src2 expected) = refl
op_length rs us (ComparePattern src pattern expected) = refl
op_length rs us (ApplyDelta delta dst record_size) = length-raised us (place_in rs dst).0 8
op_length rs us (Dualcast src dst dst2) = refl

op_units : (rs : List Span) (us : List ℕ) (op : Op) → AreUnits us → AreUnits (op_asked rs us op)
op_units rs us (Move src dst) all = all
op_units rs us (Fill pattern dst) all = all
op_units rs us (Compare src src2 expected) all = all
op_units rs us (ComparePattern src pattern expected) all = all
op_units rs us (ApplyDelta delta dst record_size) all = raised_units us (place_in rs dst).0 8 all (inr (inl refl))
op_units rs us (Dualcast src dst dst2) all = all

op_keeps : (rs : List Span) (us : List ℕ) (op : Op) (i : ℕ) → i < length us → slice_index us i ≤ slice_index (op_asked rs us op) i
op_keeps rs us (Move src dst) i lt = omega arith
op_keeps rs us (Fill pattern dst) i lt = omega arith
op_keeps rs us (Compare src src2 expected) i lt = omega arith
op_keeps rs us (ComparePattern src pattern expected) i lt = omega arith
op_keeps rs us (ApplyDelta delta dst record_size) i lt = raised_keeps us (place_in rs dst).0 8 i lt
op_keeps rs us (Dualcast src dst dst2) i lt = omega arith

length-asked : (rs : List Span) (us : List ℕ) (o : Operation) → length (asked rs us o) ≡ length us
length-asked rs us (operation.Descriptor d) = op_length rs (raised us (place_in rs d.record_at).0 32) d.op ∙ length-raised us (place_in rs d.record_at).0 32
length-asked rs us (operation.Checksum c) = length-raised us (place_in rs c.record_at).0 32

asked_units : (rs : List Span) (us : List ℕ) (o : Operation) → AreUnits us → AreUnits (asked rs us o)
asked_units rs us (operation.Descriptor d) all =
    op_units rs (raised us (place_in rs d.record_at).0 32) d.op (raised_units us (place_in rs d.record_at).0 32 all (inr (inr refl)))
asked_units rs us (operation.Checksum c) all = raised_units us (place_in rs c.record_at).0 32 all (inr (inr refl))

asked_keeps : (rs : List Span) (us : List ℕ) (o : Operation) (i : ℕ) → i < length us → slice_index us i ≤ slice_index (asked rs us o) i
asked_keeps rs us (operation.Descriptor d) i lt =
    let r : ℕ = (place_in rs d.record_at).0 in
    let a = raised_keeps us r 32 i lt in
    let b = op_keeps rs (raised us r 32) d.op i (omega (arith, lt, length-raised us r 32)) in
    omega (arith, a, b)
asked_keeps rs us (operation.Checksum c) i lt = raised_keeps us (place_in rs c.record_at).0 32 i lt

pub length-units : (rs : List Span) (us : List ℕ) (os : List Operation) → length (units_from rs us os) ≡ length us
length-units rs us [] = refl
length-units rs us (o ∷ os) = length-units rs (asked rs us o) os ∙ length-asked rs us o

pub units_are : (rs : List Span) (us : List ℕ) (os : List Operation) → AreUnits us → AreUnits (units_from rs us os)
units_are rs us [] all = all
units_are rs us (o ∷ os) all = units_are rs (asked rs us o) os (asked_units rs us o all)

units_keep : (rs : List Span) (us : List ℕ) (os : List Operation) (i : ℕ) → i < length us → slice_index us i ≤ slice_index (units_from rs us os) i
units_keep rs us [] i lt = omega arith
units_keep rs us (o ∷ os) i lt =
    let b = asked_keeps rs us o i lt in
    let c = units_keep rs (asked rs us o) os i (omega (arith, lt, length-asked rs us o)) in
    omega (arith, b, c)

-- the units are at least what the operation asks for
abbrev pub OpAsks : List Span → List ℕ → Op → Type 0
OpAsks rs us (Move src dst) = ⊤
OpAsks rs us (Fill pattern dst) = ⊤
OpAsks rs us (Compare src src2 expected) = ⊤
OpAsks rs us (ComparePattern src pattern expected) = ⊤
OpAsks rs us (ApplyDelta delta dst record_size) = 8 ≤ slice_index us (place_in rs dst).0
OpAsks rs us (Dualcast src dst dst2) = ⊤

abbrev pub Asks : List Span → List ℕ → Operation → Type 0
Asks rs us (operation.Descriptor d) = (32 ≤ slice_index us (place_in rs d.record_at).0) × OpAsks rs us d.op
Asks rs us (operation.Checksum c) = 32 ≤ slice_index us (place_in rs c.record_at).0

module _ (rs : List Span) where
  delta_asked : (us : List ℕ) (dst : ℕ) → length us ≡ length rs → InSome rs dst → 8 ≤ slice_index (raised us (place_in rs dst).0 8) (place_in rs dst).0
  delta_asked us dst count here =
      let p = place_holds rs dst here in
      omega (arith, raised_same us (place_in rs dst).0 8 (omega (arith, p.region, count)))

  op_has : (us us' : List ℕ) (op : Op) (size : ℕ) → length us ≡ length rs → AllByRecursion (LiesInOne rs) (targets op size) → ((i : ℕ) → i < length us → slice_index (op_asked rs us op) i ≤ slice_index us' i) → OpAsks rs us' op
  op_has us us' (Move src dst) size count t keep = tt
  op_has us us' (Fill pattern dst) size count t keep = tt
  op_has us us' (Compare src src2 expected) size count t keep = tt
  op_has us us' (ComparePattern src pattern expected) size count t keep = tt
  op_has us us' (ApplyDelta delta dst record_size) size count t keep =
      let here = first_has rs (span dst size) t.0 in
      let p = place_holds rs dst here in
      omega (arith, delta_asked us dst count here, keep (place_in rs dst).0 (omega (arith, p.region, count)))
  op_has us us' (Dualcast src dst dst2) size count t keep = tt

  -- a record's region has its unit, and units after that are no lower
  record_asks : (us us' : List ℕ) (a : ℕ) → length us ≡ length rs → LiesInOne rs (span a 32) →
      ((i : ℕ) → i < length us → slice_index (raised us (place_in rs a).0 32) i ≤ slice_index us' i) → 32 ≤ slice_index us' (place_in rs a).0
  record_asks us us' a count lies keep =
      let r : ℕ = (place_in rs a).0 in
      let here = place_holds rs a (first_has rs (span a 32) lies) in
      let inside : r < length us = omega (arith, here.region, count) in
      omega (arith, raised_same us r 32 inside, keep r inside)

  one_asks : (us us' : List ℕ) (o : Operation) → length us ≡ length rs → PieceLies rs o → ((i : ℕ) → i < length us → slice_index (asked rs us o) i ≤ slice_index us' i) → Asks rs us' o
  one_asks us us' (operation.Descriptor d) count lie keep =
      let r : ℕ = (place_in rs d.record_at).0 in
      let long = length-raised us r 32 in
      let kept : (i : ℕ) → i < length us → slice_index (raised us r 32) i ≤ slice_index us' i =
      λ i lt. omega (arith, op_keeps rs (raised us r 32) d.op i (omega (arith, lt, long)), keep i lt) in
      let later : (i : ℕ) → i < length (raised us r 32) → slice_index (op_asked rs (raised us r 32) d.op) i ≤ slice_index us' i =
      λ i lt. keep i (omega (arith, lt, long)) in
      (record_asks us us' d.record_at count lie.1.0 kept, op_has (raised us r 32) us' d.op d.size (omega (arith, count, long)) lie.1.1 later)
  one_asks us us' (operation.Checksum c) count lie keep = record_asks us us' c.record_at count lie.1.0 keep

  pub all_ask : (us : List ℕ) (os : List Operation) → length us ≡ length rs → AllPiecesLie rs os → AllByRecursion (Asks rs (units_from rs us os)) os
  all_ask us [] count lie = tt
  all_ask us (o ∷ os) count lie =
      let long = length-asked rs us o in (
        one_asks us (units_from rs us (o ∷ os)) o count lie.0 (λ i lt. units_keep rs (asked rs us o) os i (omega (arith, lt, long))),
        all_ask (asked rs us o) os (omega (arith, count, long)) lie.1,
      )

-- ---- what bases keep

at_least_unit : (u v : ℕ) → IsUnit u → 8 ≤ u → (u ≡ 8) ⊎ (u ≡ 32)
at_least_unit u v (inl a) le = absurd (omega (arith, a, le))
at_least_unit u v (inr b) le = b

thirty_two : (u : ℕ) → IsUnit u → 32 ≤ u → u ≡ 32
thirty_two u (inl a) le = absurd (omega (arith, a, le))
thirty_two u (inr (inl a)) le = absurd (omega (arith, a, le))
thirty_two u (inr (inr a)) le = a

by_32 : (b f o u : ℕ) → u ≡ 32 → b % u ≡ f % u → (f + o) % 32 ≡ 0 → (b + o) % 32 ≡ 0
by_32 b f o u is same al =
    let e : b % 32 ≡ f % 32 = subst (λ (n : ℕ). b % n ≡ f % n) is same in
    omega (arith, e, al)

by_8 : (b f o u : ℕ) → (u ≡ 8) ⊎ (u ≡ 32) → b % u ≡ f % u → (f + o) % 8 ≡ 0 → (b + o) % 8 ≡ 0
by_8 b f o u (inl is) same al =
    let e : b % 8 ≡ f % 8 = subst (λ (n : ℕ). b % n ≡ f % n) is same in
    omega (arith, e, al)
by_8 b f o u (inr is) same al =
    let e : b % 32 ≡ f % 32 = subst (λ (n : ℕ). b % n ≡ f % n) is same in
    omega (arith, e, al)

module _ (rs : List Span) (us bases : List ℕ) (count : length bases ≡ length rs) (unit_count : length us ≡ length rs) (units : AreUnits us) (kept : AllBelow (length rs) (IsAlignedBase rs us bases)) where
  record_kept : (a : ℕ) → InSome rs a → 32 ≤ slice_index us (place_in rs a).0 → a % 32 ≡ 0 → relocated (relocation rs bases) a % 32 ≡ 0
  record_kept a here asks al =
      let p = place_holds rs a here in
      let i : ℕ = (place_in rs a).0 in
      let u = thirty_two (slice_index us i) (units i (omega (arith, p.region, unit_count))) asks in
      let was : ((region_at rs i).first + (place_in rs a).1) % 32 ≡ 0 = ap (λ (x : ℕ). x % 32) (sym p.is) ∙ al in
      ap (λ (x : ℕ). x % 32) (address_goes rs bases 0 a count here) ∙ by_32 (slice_index bases i) (region_at rs i).first (place_in rs a).1 (slice_index us i) u (kept i p.region) was

  delta_kept : (a : ℕ) → InSome rs a → 8 ≤ slice_index us (place_in rs a).0 → a % 8 ≡ 0 → relocated (relocation rs bases) a % 8 ≡ 0
  delta_kept a here asks al =
      let p = place_holds rs a here in
      let i : ℕ = (place_in rs a).0 in
      let u = at_least_unit (slice_index us i) 0 (units i (omega (arith, p.region, unit_count))) asks in
      let was : ((region_at rs i).first + (place_in rs a).1) % 8 ≡ 0 = ap (λ (x : ℕ). x % 8) (sym p.is) ∙ al in
      ap (λ (x : ℕ). x % 8) (address_goes rs bases 0 a count here) ∙ by_8 (slice_index bases i) (region_at rs i).first (place_in rs a).1 (slice_index us i) u (kept i p.region) was

  op_delta : (op : Op) (size : ℕ) → AllByRecursion (LiesInOne rs) (targets op size) → OpAsks rs us op → HasDeltaUnits op size → HasAlignedDelta (relocated (relocation rs bases)) op
  op_delta (Move src dst) size t asks h = tt
  op_delta (Fill pattern dst) size t asks h = tt
  op_delta (Compare src src2 expected) size t asks h = tt
  op_delta (ComparePattern src pattern expected) size t asks h = tt
  op_delta (ApplyDelta delta dst record_size) size t asks h = delta_kept dst (first_has rs (span dst size) t.0) asks h.2
  op_delta (Dualcast src dst dst2) size t asks h = tt

  op_low : (op : Op) (size : ℕ) → AllByRecursion (LiesInOne rs) (targets op size) → AllByRecursion (IsTied bases) (op_ties rs op) → HasEqualLowBits (relocated_op (relocated (relocation rs bases)) op)
  op_low (Move src dst) size t tied = tt
  op_low (Fill pattern dst) size t tied = tt
  op_low (Compare src src2 expected) size t tied = tt
  op_low (ComparePattern src pattern expected) size t tied = tt
  op_low (ApplyDelta delta dst record_size) size t tied = tt
  op_low (Dualcast src dst dst2) size t tied =
      let a = address_goes rs bases 0 dst count (first_has rs (span dst size) t.0) in
      let b = address_goes rs bases 0 dst2 count (first_has rs (span dst2 size) t.1.0) in
      ap (λ (x : ℕ). x % 2 ^ 12) a ∙ tied.0 ∙ sym (ap (λ (x : ℕ). x % 2 ^ 12) b)

  pub one_aligned : (o : Operation) → PieceLies rs o → Asks rs us o → AllByRecursion (IsTied bases) (tied rs o) → IsAlignedThere (relocated (relocation rs bases)) o
  one_aligned (operation.Descriptor d) lie asks ties =
      record {
        record_aligned = record_kept d.record_at (first_has rs (span d.record_at 32) lie.1.0) asks.0 d.listed.record_aligned;
        delta_aligned = op_delta d.op d.size lie.1.1 asks.1 d.listed.delta_units;
        low_bits = op_low d.op d.size lie.1.1 ties;
      }
  one_aligned (operation.Checksum c) lie asks ties = record_kept c.record_at (first_has rs (span c.record_at 32) lie.1.0) asks c.listed.record_aligned

-- ---- ties one by one

all_front : {X : Type 0} (P : X → Type 0) (xs ys : List X) → AllByRecursion P (xs ++ ys) → AllByRecursion P xs
all_front P [] ys all = tt
all_front P (x ∷ xs) ys all = (all.0, all_front P xs ys all.1)

all_back : {X : Type 0} (P : X → Type 0) (xs ys : List X) → AllByRecursion P (xs ++ ys) → AllByRecursion P ys
all_back P [] ys all = all
all_back P (x ∷ xs) ys all = all_back P xs ys all.1

pub all_tied : (ties : List Tie) (bases : List ℕ) → AllBelow (length ties) (IsTiedAt ties bases) → AllByRecursion (IsTied bases) ties
all_tied [] bases each = tt
all_tied (tie ∷ ties) bases each = (each 0 (omega arith), all_tied ties bases (λ i lt. each (suc i) (omega (arith, lt))))

pub tied_each : (rs : List Span) (bases : List ℕ) (os : List Operation) → AllByRecursion (IsTied bases) (ties_of rs os) → AllByRecursion (λ o. AllByRecursion (IsTied bases) (tied rs o)) os
tied_each rs bases [] all = tt
tied_each rs bases (o ∷ os) all = (
  all_front (IsTied bases) (tied rs o) (ties_of rs os) all,
  tied_each rs bases os (all_back (IsTied bases) (tied rs o) (ties_of rs os) all),
)

pub ones_are : (n : ℕ) → AreUnits (replicate n 1)
ones_are zero i lt = absurd (omega (arith, lt))
ones_are (suc n) zero lt = inl refl
ones_are (suc n) (suc i) lt = ones_are n i (omega (arith, lt))
