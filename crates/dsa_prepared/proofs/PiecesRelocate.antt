-- The pieces of a relocated operation are its relocated pieces.
use Rattle.std.proofs.Common.{◌≡◌, ℕ, zero, suc, ◌+◌, ◌-◌, ◌*◌, ◌<◌, ◌≤◌, ◌⊎◌, inl, inr, min, true, false, List, [], ◌∷◌, ◌++◌, map, refl, sym, ap, ◌∙◌, arith}
use Rattle.std.specs.Prelude.{⊤}
use Rattle.std.specs.List.{AllByRecursion, range_with_len}
use Rattle.std.proofs.lemmas.List.{map-append}
use Rattle.std.proofs.lemmas.List.FromFn.{map-range_with_len_more}
use Rattle.std.proofs.lemmas.Bool.Decides.{nat_tests}
use Rattle.std.proofs.lemmas.Bool.{cases_Bool}
use Rattle.dsa_descriptor.specs.declared.op.Op.{Op}
use Rattle.dsa_descriptor.specs.declared.op.Op.TheVariants.{Move, Fill, Compare, ComparePattern, ApplyDelta, Dualcast}
use Rattle.dsa_descriptor.specs.Fields.{Fields}
use Rattle.dsa_descriptor.specs.Spans.{span}
use Rattle.dsa_descriptor.specs.Data.{sources, targets}
use Rattle.dsa_image.specs.Lines.{runs_down}
use Rattle.dsa_image.proofs.Rounds.{part_begins}
use Rattle.dsa_splitter.specs.Operations.{moved_up, op_runs_down, IsSplittable}
use Rattle.dsa_splitter.specs.Pieces.{piece_at, piece_count, pieces, all_pieces, row_span}
use Rattle.dsa_splitter.proofs.PiecesWhole.{first_of, pieces_up, pieces_down}
use Rattle.dsa_prepared.specs.Relocated.{relocated_op, relocated_fields, IsOneToOne, KeepsOffsets}

-- an address that far into a span that keeps its offsets, or its first
keeps_place : (In : ℕ → Type 0) (to : ℕ → ℕ) (a len by : ℕ) → KeepsOffsets In to (span a len) → (by ≡ 0) ⊎ (by < len) → to a + by ≡ to (a + by)
keeps_place In to a len by whole (inl none) =
    let e : a ≡ a + by = omega (arith, none) in
    let f : to a + by ≡ to a = omega (arith, none) in
    f ∙ ap to e
keeps_place In to a len by whole (inr lt) = sym (whole by lt).1

-- a delta has one piece
abbrev pub DeltaStays : Op → ℕ → Type 0
DeltaStays (Move src dst) by = ⊤
DeltaStays (Fill pattern dst) by = ⊤
DeltaStays (Compare src src2 expected) by = ⊤
DeltaStays (ComparePattern src pattern expected) by = ⊤
DeltaStays (ApplyDelta delta dst record_size) by = by ≡ 0
DeltaStays (Dualcast src dst dst2) by = ⊤

op_relocates_up : (In : ℕ → Type 0) (to : ℕ → ℕ) (op : Op) (size by : ℕ) → AllByRecursion (KeepsOffsets In to) (sources op size) → AllByRecursion (KeepsOffsets In to) (targets op size) → DeltaStays op by → by < size
    → moved_up by (relocated_op to op) ≡ relocated_op to (moved_up by op)
op_relocates_up In to (Move src dst) size by s t z lt = λ i. Move (keeps_place In to src size by s.0 (inr lt) i) (keeps_place In to dst size by t.0 (inr lt) i)
op_relocates_up In to (Fill pattern dst) size by s t z lt = λ i. Fill pattern (keeps_place In to dst size by t.0 (inr lt) i)
op_relocates_up In to (Compare src src2 expected) size by s t z lt = λ i. Compare (keeps_place In to src size by s.0 (inr lt) i) (keeps_place In to src2 size by s.1.0 (inr lt) i) expected
op_relocates_up In to (ComparePattern src pattern expected) size by s t z lt = λ i. ComparePattern (keeps_place In to src size by s.0 (inr lt) i) pattern expected
op_relocates_up In to (ApplyDelta delta dst record_size) size by s t z lt = λ i. ApplyDelta (keeps_place In to delta record_size by s.0 (inl z) i) (keeps_place In to dst size by t.0 (inl z) i) record_size
op_relocates_up In to (Dualcast src dst dst2) size by s t z lt =
    λ i. Dualcast (keeps_place In to src size by s.0 (inr lt) i) (keeps_place In to dst size by t.0 (inr lt) i) (keeps_place In to dst2 size by t.1.0 (inr lt) i)

-- ---- the direction

runs_tells : (src dst size : ℕ) → ((runs_down src dst size ≡ true) × (src < dst) × (dst < src + size)) ⊎ ((runs_down src dst size ≡ false) × ((dst ≤ src) ⊎ (src + size ≤ dst)))
unfolding runs_down
runs_tells src dst size = grind (arith, nat_tests)

runs_in : (src dst size : ℕ) → src < dst → dst < src + size → runs_down src dst size ≡ true
unfolding runs_down
runs_in src dst size l h = grind (arith, nat_tests)

runs_same : (In : ℕ → Type 0) (to : ℕ → ℕ) (src dst size : ℕ) → IsOneToOne In to → KeepsOffsets In to (span src size) → KeepsOffsets In to (span dst size) → runs_down (to src) (to dst) size ≡ runs_down src dst size
runs_same In to src dst size apart whole whole' =
    elim (runs_tells src dst size) [
      | inl (is, low, high) ↦
          let e : src + (dst - src) ≡ dst = omega (arith, low) in
          let w = whole (dst - src) (omega (arith, low, high)) in
          let m : to dst ≡ to src + (dst - src) = ap to (sym e) ∙ w.1 in
          runs_in (to src) (to dst) size (omega (arith, m, low)) (omega (arith, m, low, high)) ∙ sym is
      | inr (is, out) ↦
          elim (runs_tells (to src) (to dst) size) [
            | inl (is', low, high) ↦
                let j : ℕ = to dst - to src in
                let a = whole j (omega (arith, low, high)) in
                let d = whole' 0 (omega (arith, low, high)) in
                let here : to dst + 0 ≡ to src + j = omega (arith, low) in
                let same : dst + 0 ≡ src + j = apart (dst + 0) (src + j) d.0 a.0 (d.1 ∙ here ∙ sym a.1) in
                absurd (omega (arith, same, low, high, out))
            | inr (is', out') ↦ is' ∙ sym is
          ]
    ]

op_runs_same : (In : ℕ → Type 0) (to : ℕ → ℕ) (op : Op) (size : ℕ) → IsOneToOne In to → AllByRecursion (KeepsOffsets In to) (sources op size) → AllByRecursion (KeepsOffsets In to) (targets op size)
    → op_runs_down (relocated_op to op) size ≡ op_runs_down op size
op_runs_same In to (Move src dst) size apart s t = runs_same In to src dst size apart s.0 t.0
op_runs_same In to (Fill pattern dst) size apart s t = refl
op_runs_same In to (Compare src src2 expected) size apart s t = refl
op_runs_same In to (ComparePattern src pattern expected) size apart s t = refl
op_runs_same In to (ApplyDelta delta dst record_size) size apart s t = refl
op_runs_same In to (Dualcast src dst dst2) size apart s t = refl

-- ---- the pieces

-- the data and the row of records of a whole operation keep their offsets, and a delta is one piece
pub record RelocatesAsOne (In : ℕ → Type 0) (to : ℕ → ℕ) (g : ℕ) (f : Fields) : Type 0 where
  pub from : AllByRecursion (KeepsOffsets In to) (sources f.op f.size)
  pub into : AllByRecursion (KeepsOffsets In to) (targets f.op f.size)
  pub row : KeepsOffsets In to (row_span f g)
  pub splittable : IsSplittable f.op f.size g

pub delta_stays : (op : Op) (size g k : ℕ) → IsSplittable op size g → g * k < size → DeltaStays op (g * k)
delta_stays (Move src dst) size g k s lt = tt
delta_stays (Fill pattern dst) size g k s lt = tt
delta_stays (Compare src src2 expected) size g k s lt = tt
delta_stays (ComparePattern src pattern expected) size g k s lt = tt
delta_stays (ApplyDelta delta dst record_size) size g zero s lt = omega arith
delta_stays (ApplyDelta delta dst record_size) size g (suc k) s lt = absurd (omega arith)
delta_stays (Dualcast src dst dst2) size g k s lt = tt

piece_same : (In : ℕ → Type 0) (to : ℕ → ℕ) (g k : ℕ) (f : Fields) → RelocatesAsOne In to g f → 0 < g → k < piece_count f g → piece_at (relocated_fields to f) g k ≡ relocated_fields to (piece_at f g k)
piece_same In to g k f one pos lt =
    let begins : g * k < f.size = part_begins g f.size k pos lt in
    let in_row : 32 * k < 32 * piece_count f g = omega (arith, lt) in
    let at = keeps_place In to f.record_at (32 * piece_count f g) (32 * k) one.row (inr in_row) in
    let op = op_relocates_up In to f.op f.size (g * k) one.from one.into (delta_stays f.op f.size g k one.splittable begins) begins in
    λ i. record {
      pasid = f.pasid;
      privileged = f.privileged;
      flags = f.flags;
      record_at = at i;
      size = min g (f.size - g * k);
      int_handle = f.int_handle;
      op = op i;
    }

pub first_more : (h : ℕ → Fields) (t : ℕ) → first_of h (suc t) ≡ first_of h t ++ h t ∷ []
unfolding first_of
first_more h t =
    let e : suc t ≡ t + 1 = omega arith in
    ap (λ n. map h (range_with_len 0 n)) e ∙ map-range_with_len_more h 0 t t (omega arith)

pub first_none : (h : ℕ → Fields) → first_of h 0 ≡ []
unfolding first_of
first_none h = refl

first_same : (to : ℕ → ℕ) (h' h : ℕ → Fields) (t : ℕ) → ((k : ℕ) → k < t → h' k ≡ relocated_fields to (h k)) → first_of h' t ≡ map (relocated_fields to) (first_of h t)
first_same to h' h zero same = first_none h' ∙ sym (ap (map (relocated_fields to)) (first_none h))
first_same to h' h (suc t) same =
    let before = first_same to h' h t (λ k lt. same k (omega arith)) in
    let last = same t (omega arith) in
    let joined : first_of h' t ++ h' t ∷ [] ≡ map (relocated_fields to) (first_of h t) ++ relocated_fields to (h t) ∷ [] = λ i. before i ++ last i ∷ [] in
    first_more h' t ∙ joined ∙ sym (ap (map (relocated_fields to)) (first_more h t) ∙ map-append (relocated_fields to) (first_of h t) (h t ∷ []))

pub pieces_relocate : (In : ℕ → Type 0) (to : ℕ → ℕ) (g : ℕ) (f : Fields) → IsOneToOne In to → RelocatesAsOne In to g f → 0 < g → pieces (relocated_fields to f) g ≡ map (relocated_fields to) (pieces f g)
pieces_relocate In to g f apart one pos =
    let n : ℕ = piece_count f g in
    let turn = op_runs_same In to f.op f.size apart one.from one.into in
    elim (cases_Bool (op_runs_down f.op f.size)) [
      | inl down ↦
          pieces_down (relocated_fields to f) g (turn ∙ down)
          ∙ first_same to (λ t. piece_at (relocated_fields to f) g (n - suc t)) (λ t. piece_at f g (n - suc t)) n (λ k lt. piece_same In to g (n - suc k) f one pos (omega (arith, lt)))
          ∙ ap (map (relocated_fields to)) (sym (pieces_down f g down))
      | inr up ↦
          pieces_up (relocated_fields to f) g (turn ∙ up)
          ∙ first_same to (piece_at (relocated_fields to f) g) (piece_at f g) n (λ k lt. piece_same In to g k f one pos lt)
          ∙ ap (map (relocated_fields to)) (sym (pieces_up f g up))
    ]

pub all_pieces_relocate : (In : ℕ → Type 0) (to : ℕ → ℕ) (g : ℕ) (fs : List Fields) → IsOneToOne In to → AllByRecursion (RelocatesAsOne In to g) fs → 0 < g → all_pieces (map (relocated_fields to) fs) g ≡ map (relocated_fields to) (all_pieces fs g)
all_pieces_relocate In to g [] apart all pos = refl
all_pieces_relocate In to g (f ∷ fs) apart all pos =
    let one = pieces_relocate In to g f apart all.0 pos in
    let rest = all_pieces_relocate In to g fs apart all.1 pos in
    let joined : pieces (relocated_fields to f) g ++ all_pieces (map (relocated_fields to) fs) g ≡ map (relocated_fields to) (pieces f g) ++ map (relocated_fields to) (all_pieces fs g) = λ i. one i ++ rest i in
    joined ∙ sym (map-append (relocated_fields to) (pieces f g) (all_pieces fs g))
