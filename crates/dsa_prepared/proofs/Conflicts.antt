-- Relocated pieces conflict exactly if they did.
use Rattle.std.proofs.Common.{◌≡◌, ℕ, zero, suc, inl, inr, Option, Some, None, List, [], ◌∷◌, map, option_map, refl, sym, ap, subst, ◌∙◌}
use Rattle.std.specs.Prelude.{◌↔◌, ⊤, slice_get}
use Rattle.std.specs.List.{AllByRecursion}
use Rattle.std.proofs.lemmas.Option.{slice_get-map, same_Some}
use Rattle.dsa_descriptor.specs.declared.op.Op.{Op}
use Rattle.dsa_descriptor.specs.declared.op.Op.TheVariants.{Move, Fill, Compare, ComparePattern, ApplyDelta, Dualcast}
use Rattle.dsa_descriptor.specs.declared.span.Span.{Span}
use Rattle.dsa_descriptor.specs.Fields.{Fields}
use Rattle.dsa_descriptor.specs.Data.{sources, targets}
use Rattle.dsa_descriptor.specs.Spans.{InSome}
use Rattle.dsa_ranges.specs.Pieces.{PieceConflictAt}
use Rattle.dsa_ranges.specs.Ranges.{read_spans, written_spans, WritesInto, SpansConflict, Conflicts, ConflictAt}
use Rattle.dsa_prepared.specs.Relocated.{relocated_op, relocated_fields, relocated_span, IsOneToOne, KeepsOffsets, SpansKeepOffsets, AllKeepOffsets}
use Rattle.dsa_prepared.proofs.RelocatedSpans.{some_go, some_come}

pub sources_relocate : (to : ℕ → ℕ) (op : Op) (size : ℕ) → sources (relocated_op to op) size ≡ map (relocated_span to) (sources op size)
sources_relocate to (Move src dst) size = refl
sources_relocate to (Fill pattern dst) size = refl
sources_relocate to (Compare src src2 expected) size = refl
sources_relocate to (ComparePattern src pattern expected) size = refl
sources_relocate to (ApplyDelta delta dst record_size) size = refl
sources_relocate to (Dualcast src dst dst2) size = refl

pub targets_relocate : (to : ℕ → ℕ) (op : Op) (size : ℕ) → targets (relocated_op to op) size ≡ map (relocated_span to) (targets op size)
targets_relocate to (Move src dst) size = refl
targets_relocate to (Fill pattern dst) size = refl
targets_relocate to (Compare src src2 expected) size = refl
targets_relocate to (ComparePattern src pattern expected) size = refl
targets_relocate to (ApplyDelta delta dst record_size) size = refl
targets_relocate to (Dualcast src dst dst2) size = refl

pub reads_relocate : (to : ℕ → ℕ) (f : Fields) → read_spans (relocated_fields to f) ≡ map (relocated_span to) (read_spans f)
reads_relocate to f = sources_relocate to f.op f.size

pub writes_relocate : (to : ℕ → ℕ) (f : Fields) → written_spans (relocated_fields to f) ≡ map (relocated_span to) (written_spans f)
writes_relocate to f = ap (λ (ss : List Span). relocated_span to (record { first = f.record_at; len = 32 }) ∷ ss) (targets_relocate to f.op f.size)

into_go : (In : ℕ → Type 0) (to : ℕ → ℕ) (writes reads writes' : List Span) → AllByRecursion (KeepsOffsets In to) writes → AllByRecursion (KeepsOffsets In to) reads → AllByRecursion (KeepsOffsets In to) writes'
    → WritesInto writes reads writes' → WritesInto (map (relocated_span to) writes) (map (relocated_span to) reads) (map (relocated_span to) writes')
into_go In to writes reads writes' w r w' (a, here, inl there) = (to a, (some_go In to writes a w here).1, inl (some_go In to reads a r there).1)
into_go In to writes reads writes' w r w' (a, here, inr there) = (to a, (some_go In to writes a w here).1, inr (some_go In to writes' a w' there).1)

into_come : (In : ℕ → Type 0) (to : ℕ → ℕ) (writes reads writes' : List Span) → IsOneToOne In to → AllByRecursion (KeepsOffsets In to) writes → AllByRecursion (KeepsOffsets In to) reads → AllByRecursion (KeepsOffsets In to) writes'
    → WritesInto (map (relocated_span to) writes) (map (relocated_span to) reads) (map (relocated_span to) writes') → WritesInto writes reads writes'
into_come In to writes reads writes' apart w r w' (b, here, inl there) =
    let c = some_come In to writes b w here in
    let d = some_come In to reads b r there in
    let same : d.0 ≡ c.0 = apart d.0 c.0 d.2 c.2 (d.3 ∙ sym c.3) in
    (c.0, c.1, inl (subst (λ (x : ℕ). InSome reads x) same d.1))
into_come In to writes reads writes' apart w r w' (b, here, inr there) =
    let c = some_come In to writes b w here in
    let d = some_come In to writes' b w' there in
    let same : d.0 ≡ c.0 = apart d.0 c.0 d.2 c.2 (d.3 ∙ sym c.3) in
    (c.0, c.1, inr (subst (λ (x : ℕ). InSome writes' x) same d.1))

-- ---- two that read and write spans, and where these go

module _ (In : ℕ → Type 0) (to : ℕ → ℕ) (reads writes reads' writes' : List Span) (r : AllByRecursion (KeepsOffsets In to) reads) (w : AllByRecursion (KeepsOffsets In to) writes)
    (r' : AllByRecursion (KeepsOffsets In to) reads') (w' : AllByRecursion (KeepsOffsets In to) writes') where
  abbrev SpansRelocated : Type 0
  SpansRelocated = SpansConflict (map (relocated_span to) reads) (map (relocated_span to) writes) (map (relocated_span to) reads') (map (relocated_span to) writes')

  conflict_goes : SpansConflict reads writes reads' writes' → SpansRelocated
  conflict_goes (inl h) = inl (into_go In to writes reads' writes' w r' w' h)
  conflict_goes (inr h) = inr (into_go In to writes' reads writes w' r w h)

  conflict_comes : IsOneToOne In to → SpansRelocated → SpansConflict reads writes reads' writes'
  conflict_comes apart (inl h) = inl (into_come In to writes reads' writes' apart w r' w' h)
  conflict_comes apart (inr h) = inr (into_come In to writes' reads writes apart w' r w h)

-- ---- two lists, in which the spans of the second are the relocated spans of the first

-- each two at the same place are related
abbrev pub AllPaired : {X Y : Type 0} → (X → Y → Type 0) → List X → List Y → Type 0
AllPaired R [] [] = ⊤
AllPaired R [] (y ∷ ys) = ⊥
AllPaired R (x ∷ xs) [] = ⊥
AllPaired R (x ∷ xs) (y ∷ ys) = R x y × AllPaired R xs ys

pub paired_there : {X Y : Type 0} (R : X → Y → Type 0) (xs : List X) (ys : List Y) (i : ℕ) (x : X) → AllPaired R xs ys → slice_get xs i ≡ Some x → (y : Y) × (slice_get ys i ≡ Some y) × R x y
paired_there R [] ys i x all there = absurd cc
paired_there R (x' ∷ xs) [] i x all there = absurd all
paired_there {X} R (x' ∷ xs) (y ∷ ys) zero x all there = (y, refl, subst (λ (z : X). R z y) (same_Some x' x there) all.0)
paired_there R (x' ∷ xs) (y ∷ ys) (suc i) x all there = paired_there R xs ys i x all.1 there

pub paired_back : {X Y : Type 0} (R : X → Y → Type 0) (xs : List X) (ys : List Y) (i : ℕ) (y : Y) → AllPaired R xs ys → slice_get ys i ≡ Some y → (x : X) × (slice_get xs i ≡ Some x) × R x y
paired_back R xs [] i y all there = absurd cc
paired_back R [] (y' ∷ ys) i y all there = absurd all
paired_back {X} {Y} R (x ∷ xs) (y' ∷ ys) zero y all there = (x, refl, subst (λ (z : Y). R x z) (same_Some y' y there) all.0)
paired_back R (x ∷ xs) (y' ∷ ys) (suc i) y all there = paired_back R xs ys i y all.1 there

module _ (X Y : Type 0) (reads writes : X → List Span) (reads' writes' : Y → List Span) (In : ℕ → Type 0) (to : ℕ → ℕ) (apart : IsOneToOne In to) where
  -- what the second reads and writes is where that of the first goes
  abbrev pub Goes : X → Y → Type 0
  Goes x y = (reads' y ≡ map (relocated_span to) (reads x)) × (writes' y ≡ map (relocated_span to) (writes x))

  abbrev pub Keeps : X → Type 0
  Keeps x = AllByRecursion (KeepsOffsets In to) (reads x) × AllByRecursion (KeepsOffsets In to) (writes x)

  two_go : (p q : X) (p' q' : Y) → Keeps p → Keeps q → Goes p p' → Goes q q' → SpansConflict (reads p) (writes p) (reads q) (writes q) → SpansConflict (reads' p') (writes' p') (reads' q') (writes' q')
  two_go p q p' q' k l g h c =
      subst (λ (T : Type 0). T) (λ i. SpansConflict (sym g.0 i) (sym g.1 i) (sym h.0 i) (sym h.1 i))
      (conflict_goes In to (reads p) (writes p) (reads q) (writes q) k.0 k.1 l.0 l.1 c)

  two_come : (p q : X) (p' q' : Y) → Keeps p → Keeps q → Goes p p' → Goes q q' → SpansConflict (reads' p') (writes' p') (reads' q') (writes' q') → SpansConflict (reads p) (writes p) (reads q) (writes q)
  two_come p q p' q' k l g h c =
      conflict_comes In to (reads p) (writes p) (reads q) (writes q) k.0 k.1 l.0 l.1 apart
      (subst (λ (T : Type 0). T) (λ i. SpansConflict (g.0 i) (g.1 i) (h.0 i) (h.1 i)) c)

  pub two_stay : (p q : X) (p' q' : Y) → Keeps p → Keeps q → Goes p p' → Goes q q' → (SpansConflict (reads p) (writes p) (reads q) (writes q) ↔ SpansConflict (reads' p') (writes' p') (reads' q') (writes' q'))
  two_stay p q p' q' k l g h = (two_go p q p' q' k l g h, two_come p q p' q' k l g h)

  keeps_at : (xs : List X) (i : ℕ) (x : X) → AllByRecursion Keeps xs → slice_get xs i ≡ Some x → Keeps x
  keeps_at [] i x all there = absurd cc
  keeps_at (y ∷ xs) zero x all there = subst (λ (z : X). Keeps z) (same_Some y x there) all.0
  keeps_at (y ∷ xs) (suc i) x all there = keeps_at xs i x all.1 there

  pub conflicts_at_stay : (xs : List X) (ys : List Y) → AllPaired Goes xs ys → AllByRecursion Keeps xs → (i j : ℕ) → (PieceConflictAt reads writes xs i j ↔ PieceConflictAt reads' writes' ys i j)
  conflicts_at_stay xs ys go keep i j = (
    λ (p, q, at_i, at_j, c).
        let p' = paired_there Goes xs ys i p go at_i in
        let q' = paired_there Goes xs ys j q go at_j in
        (p'.0, q'.0, p'.1, q'.1, two_go p q p'.0 q'.0 (keeps_at xs i p keep at_i) (keeps_at xs j q keep at_j) p'.2 q'.2 c),
    λ (p', q', at_i, at_j, c).
        let p = paired_back Goes xs ys i p' go at_i in
        let q = paired_back Goes xs ys j q' go at_j in
        (p.0, q.0, p.1, q.1, two_come p.0 q.0 p' q' (keeps_at xs i p.0 keep p.1) (keeps_at xs j q.0 keep q.1) p.2 q.2 c),
  )

-- ---- descriptors

pub conflicts_stay : (In : ℕ → Type 0) (to : ℕ → ℕ) (f g : Fields) → IsOneToOne In to → SpansKeepOffsets In to f → SpansKeepOffsets In to g → (Conflicts f g ↔ Conflicts (relocated_fields to f) (relocated_fields to g))
conflicts_stay In to f g apart m n =
    two_stay Fields Fields read_spans written_spans read_spans written_spans In to apart f g (relocated_fields to f) (relocated_fields to g) m n
    (reads_relocate to f, writes_relocate to f) (reads_relocate to g, writes_relocate to g)

abbrev FieldsGo : (ℕ → ℕ) → Fields → Fields → Type 0
FieldsGo to f e = (read_spans e ≡ map (relocated_span to) (read_spans f)) × (written_spans e ≡ map (relocated_span to) (written_spans f))

all_go : (to : ℕ → ℕ) (fs : List Fields) → AllPaired (FieldsGo to) fs (map (relocated_fields to) fs)
all_go to [] = tt
all_go to (f ∷ fs) = ((reads_relocate to f, writes_relocate to f), all_go to fs)

-- the element at a place of the relocated list is relocated
from_map : (to : ℕ → ℕ) (o : Option Fields) (e : Fields) → option_map (relocated_fields to) o ≡ Some e → (f : Fields) × (o ≡ Some f) × (e ≡ relocated_fields to f)
from_map to (Some f) e h = (f, refl, sym (same_Some (relocated_fields to f) e h))
from_map to None e h = absurd cc

pub relocated_at : (to : ℕ → ℕ) (fs : List Fields) (i : ℕ) (e : Fields) → slice_get (map (relocated_fields to) fs) i ≡ Some e → (f : Fields) × (slice_get fs i ≡ Some f) × (e ≡ relocated_fields to f)
relocated_at to fs i e there = from_map to (slice_get fs i) e (sym (slice_get-map (relocated_fields to) fs i) ∙ there)

pub places_stay : (In : ℕ → Type 0) (to : ℕ → ℕ) (fs : List Fields) → IsOneToOne In to → AllKeepOffsets In to fs → (i j : ℕ) → (ConflictAt fs i j ↔ ConflictAt (map (relocated_fields to) fs) i j)
places_stay In to fs apart all = conflicts_at_stay Fields Fields read_spans written_spans read_spans written_spans In to apart fs (map (relocated_fields to) fs) (all_go to fs) all
