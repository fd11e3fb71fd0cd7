-- The bytes of entries with barriers, and that they are read back.
use Rattle.std.proofs.Common.{◌≡◌, inl, inr, ℕ, zero, suc, ◌+◌, ◌*◌, ◌/◌, ◌%◌, ◌<◌, Bool, false, Some, List, [], ◌∷◌, ◌++◌, length, take, drop, get_or, map, refl, sym, ap, ◌∙◌, append_assoc, length-append, arith}
use Rattle.std.specs.Prelude.{slice_get}
use Rattle.std.specs.List.{flat_map, list_any}
use Rattle.std.specs.Simd.{first_chunks}
use Rattle.std.proofs.lemmas.List.{append-nil, drop_all, drop_at, take_at}
use Rattle.std.proofs.lemmas.Option.{same_Some}
use Rattle.dsa_descriptor.specs.declared.descriptor.Descriptor.{Descriptor}
use Rattle.dsa_descriptor.specs.declared.fault.FieldFault.{FieldFault}
use Rattle.dsa_descriptor.specs.Descriptors.{fields}
use Rattle.dsa_descriptor.specs.Faults.{Keeps}
use Rattle.dsa_descriptor.specs.Fences.{EntriesReadBack, MarkedListReadsBack, after_first, barriers_of, fenced, fenced_entries, is_fenced, marked_spelling, set_marks, unfenced, unfenced_list}
use Rattle.dsa_descriptor.specs.Lists.{entries, AreEntries}
use Rattle.dsa_descriptor.proofs.Fenced.{fenced_alike, fenced_is, length-fenced, unfenced_fenced}
use Rattle.dsa_descriptor.proofs.Listed.{are_entries, list_is, spelt}
use Rattle.dsa_descriptor.proofs.Seen.{no_barriers}

-- ---- the bytes of one entry more

pub dropped : (bs : List Bool) (i : ℕ) → get_or (drop 1 bs) i false ≡ get_or bs (suc i) false
dropped [] i = refl
dropped (b ∷ bs) i = refl

pub item_at : (E : Type 0) (es : List E) (i : ℕ) (e : E) → i < length es → e ≡ get_or es i e → slice_get es i ≡ Some e
item_at E [] i e lt is = absurd (omega arith)
item_at E (x ∷ xs) zero e lt is = ap Some (sym is)
item_at E (x ∷ xs) (suc i) e lt is = item_at E xs i e (omega arith) is

module _ (E : Type 0) (spell : E → List ℕ) where
  pub fenced_more : (es : List E) (bs : List Bool) (i : ℕ) (e : E) → slice_get es i ≡ Some e
      → fenced_entries spell (take (i + 1) es) bs ≡ fenced_entries spell (take i es) bs ++ fenced (get_or bs i false) (spell e)
  unfolding fenced_entries
  fenced_more [] bs i e h = cc
  fenced_more (x ∷ xs) bs zero e h =
      append-nil (fenced (get_or bs 0 false) (spell x)) ∙ ap (λ (y : E). fenced (get_or bs 0 false) (spell y)) (same_Some x e h)
  fenced_more (x ∷ xs) bs (suc i) e h =
      let next : suc i + 1 ≡ suc (i + 1) = omega arith in
      let first : List ℕ = fenced (get_or bs 0 false) (spell x) in
      ap (λ (n : ℕ). fenced_entries spell (take n (x ∷ xs)) bs) next
      ∙ ap (λ (bytes : List ℕ). first ++ bytes) (fenced_more xs (drop 1 bs) i e h)
      ∙ sym (append_assoc first (fenced_entries spell (take i xs) (drop 1 bs)) (fenced (get_or (drop 1 bs) i false) (spell e)))
      ∙ ap (λ (m : Bool). (first ++ fenced_entries spell (take i xs) (drop 1 bs)) ++ fenced m (spell e)) (dropped bs i)

  pub none_fenced_yet : (bs : List Bool) → fenced_entries spell [] bs ≡ []
  unfolding fenced_entries
  none_fenced_yet bs = refl

-- ---- reading it back
module _ (E : Type 0) (spell : E → List ℕ) (keeps : List ℕ → FieldFault → Type 0) (are : AreEntries spell keeps) where
  plain : (e : E) → get_or (spell e) 4 0 % 2 ≡ 0
  plain e = are.plain (spell e) (are.kept e)

  one_fenced_long : (e : E) (fence : Bool) → length (fenced fence (spell e)) ≡ 64
  one_fenced_long e fence = length-fenced (spell e) (are.whole e) (plain e) fence

  -- the entries
  abbrev parts : List E → List Bool → List (List ℕ)
  parts [] bs = []
  parts (e ∷ es) bs = fenced (get_or bs 0 false) (spell e) ∷ parts es (drop 1 bs)

  length-all : (es : List E) (bs : List Bool) → length (fenced_entries spell es bs) ≡ 64 * length es
  unfolding fenced_entries
  length-all [] bs = refl
  length-all (e ∷ es) bs =
      omega (
        arith,
        length-append (fenced (get_or bs 0 false) (spell e)) (fenced_entries spell es (drop 1 bs)),
        one_fenced_long e (get_or bs 0 false),
        length-all es (drop 1 bs),
      )

  chunks_are : (es : List E) (bs : List Bool) → first_chunks 64 (length es) (fenced_entries spell es bs) ≡ parts es bs
  unfolding fenced_entries
  chunks_are [] bs = refl
  chunks_are (e ∷ es) bs =
      let first : List ℕ = fenced (get_or bs 0 false) (spell e) in
      let rest : List ℕ = fenced_entries spell es (drop 1 bs) in
      let long : length first ≡ 64 = one_fenced_long e (get_or bs 0 false) in
      rw (take_at first rest 64 long, drop_at first rest 64 long, chunks_are es (drop 1 bs)) refl

  entries_are : (es : List E) (bs : List Bool) → entries (fenced_entries spell es bs) ≡ parts es bs
  entries_are es bs =
      let count : length (fenced_entries spell es bs) / 64 ≡ length es = omega (arith, length-all es bs) in
      ap (λ (n : ℕ). first_chunks 64 n (fenced_entries spell es bs)) count ∙ chunks_are es bs

  -- without their fences they spell the entries
  unfenced_parts : (es : List E) (bs : List Bool) → flat_map unfenced (parts es bs) ≡ flat_map spell es
  unfenced_parts [] bs = refl
  unfenced_parts (e ∷ es) bs =
      rw (unfenced_fenced (spell e) (are.whole e) (plain e) (get_or bs 0 false), unfenced_parts es (drop 1 bs)) refl

  unfenced_again : (es : List E) (bs : List Bool) → unfenced_list (fenced_entries spell es bs) ≡ flat_map spell es
  unfenced_again es bs =
      let bytes : List ℕ = fenced_entries spell es bs in
      let none : drop (64 * (length bytes / 64)) bytes ≡ [] = drop_all (64 * (length bytes / 64)) bytes (omega (arith, length-all es bs)) in
      ap (λ (parts : List (List ℕ)). flat_map unfenced parts ++ drop (64 * (length bytes / 64)) bytes) (entries_are es bs)
      ∙ ap (λ (rest : List ℕ). flat_map unfenced (parts es bs) ++ rest) none
      ∙ append-nil (flat_map unfenced (parts es bs)) ∙ unfenced_parts es bs

  -- their fences are the marks
  fences_are : (es : List E) (bs : List Bool) → length bs ≡ length es → map is_fenced (parts es bs) ≡ bs
  fences_are [] [] count = refl
  fences_are [] (b ∷ bs) count = absurd (omega arith)
  fences_are (e ∷ es) [] count = absurd (omega arith)
  fences_are (e ∷ es) (b ∷ bs) count = rw (fenced_is (spell e) (are.whole e) (plain e) b, fences_are es bs (omega arith)) refl

  none_are : (es : List E) → list_any is_fenced (parts es []) ≡ false
  none_are [] = refl
  none_are (e ∷ es) = rw (fenced_is (spell e) (are.whole e) (plain e) false) (none_are es)

  pub read_back : EntriesReadBack spell
  read_back es bs (inr count) = (
    unfenced_again es bs,
    ap (λ (parts : List (List ℕ)). set_marks (after_first (map is_fenced parts))) (entries_are es bs)
        ∙ ap (λ (marks : List Bool). set_marks (after_first marks)) (fences_are es bs count),
  )
  read_back es [] (inl none) = (
    unfenced_again es [],
    ap (λ (parts : List (List ℕ)). set_marks (after_first (map is_fenced parts))) (entries_are es [])
        ∙ no_barriers (parts es []) (none_are es),
  )
  read_back es (b ∷ bs) (inl none) = absurd cc

-- ---- descriptors

pub marked_is : (ds : List Descriptor) (bs : List Bool) → fenced_entries spelt ds bs ≡ marked_spelling (map fields ds) bs
unfolding fenced_entries marked_spelling
marked_is [] bs = refl
marked_is (d ∷ ds) bs = rw (fenced_alike d (get_or bs 0 false), marked_is ds (drop 1 bs)) refl

pub marked_list_reads_back : MarkedListReadsBack
marked_list_reads_back ds bs count =
    let again = read_back Descriptor spelt Keeps are_entries ds bs count in
    (ap unfenced_list (sym (marked_is ds bs)) ∙ again.0 ∙ sym (list_is ds), ap barriers_of (sym (marked_is ds bs)) ∙ again.1)

pub field_at : (ds : List Descriptor) (i : ℕ) (d : Descriptor) → i < length ds → d ≡ get_or ds i d → slice_get (map fields ds) i ≡ Some (fields d)
field_at [] i d lt is = absurd (omega arith)
field_at (x ∷ xs) zero d lt is = ap (λ (y : Descriptor). Some (fields y)) (sym is)
field_at (x ∷ xs) (suc i) d lt is = field_at xs i d (omega arith) is
