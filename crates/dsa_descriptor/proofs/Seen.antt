-- The entries of a list as they are read: with their fences, or without.
use Rattle.std.proofs.Common.{◌≡◌, ◌≢◌, ℕ, zero, suc, ◌+◌, ◌-◌, ◌*◌, ◌/◌, ◌%◌, ◌<◌, ◌≤◌, Bool, true, false, cond, ◌&&◌, ◌||◌, inl, inr, List, [], ◌∷◌, ◌++◌, length, take, drop, get_or, map, refl, sym, ap, ◌∙◌, subst, append_assoc, arith}
use Rattle.std.specs.List.{flat_map, list_any}
use Rattle.std.specs.Simd.{first_chunks}
use Rattle.std.proofs.Math.Seq.{take-suc}
use Rattle.std.proofs.lemmas.List.Folds.{list_any-append}
use Rattle.std.proofs.lemmas.Bool.{cases_Bool, eqb-false, eqb-true}
use Rattle.std.proofs.lemmas.List.{length-append, length-map, length-set, length-drop, length-take-le, take_at, drop_at, get_or-map, get_or-set_other, set-get_or, take_all}
use Rattle.dsa_descriptor.specs.declared.descriptor.Descriptor.{Descriptor}
use Rattle.dsa_descriptor.specs.Descriptors.{fields}
use Rattle.dsa_descriptor.specs.Lists.{entries, entry, AgreeOnOwner, AreEntries, IsSoundAt, IsSound, IsFirstFaultBy}
use Rattle.dsa_descriptor.specs.Places.{u32_at}
use Rattle.dsa_descriptor.specs.Fences.{is_fenced, fences_of, unfenced, unfenced_list, after_first, set_marks, seen_entry, seen_list}
use Rattle.dsa_descriptor.specs.declared.fault.FieldFault.{FieldFault}
use Rattle.dsa_descriptor.specs.declared.fault.ListFault.TheVariants.{Length, Field, MixedPasid}
use Rattle.dsa_descriptor.specs.Faults.{IsFirstBreach}
use Rattle.dsa_descriptor.specs.Spelling.{spelling}
use Rattle.dsa_descriptor.proofs.Entries.{kept_by, length-chunks, length-entries_spelling, spelt_all, spelt_more}
use Rattle.dsa_descriptor.specs.Fields.{Fields}
use Rattle.dsa_descriptor.specs.Profile.{IsListed}
use Rattle.dsa_descriptor.proofs.Masks.{no_fence}

-- ---- one entry

length-unfenced : (bytes : List ℕ) → length (unfenced bytes) ≡ length bytes
length-unfenced bytes = length-set bytes 4 (get_or bytes 4 0 - get_or bytes 4 0 % 2)

word_by_bytes : (xs ys : List ℕ) → ((i : ℕ) → i < 4 → get_or xs i 0 ≡ get_or ys i 0) → u32_at 0 xs ≡ u32_at 0 ys
unfolding u32_at
word_by_bytes xs ys same = omega (arith, same 0 (omega arith), same 1 (omega arith), same 2 (omega arith), same 3 (omega arith))

same_word : (bytes : List ℕ) → u32_at 0 (unfenced bytes) ≡ u32_at 0 bytes
same_word bytes =
    word_by_bytes (unfenced bytes) bytes
    (λ i lt. get_or-set_other bytes 4 i (get_or bytes 4 0 - get_or bytes 4 0 % 2) 0 (λ e. absurd (omega (arith, lt, e))))

-- entries agree on the owner however they are read
pub owner_seen : (t : Bool) (a b : List ℕ) → AgreeOnOwner a b → AgreeOnOwner (seen_entry t a) (seen_entry t b)
owner_seen false a b h = h
owner_seen true a b h = rw (same_word a, same_word b) h

pub owner_back : (t : Bool) (a b : List ℕ) → AgreeOnOwner (seen_entry t a) (seen_entry t b) → AgreeOnOwner a b
owner_back false a b h = h
owner_back true a b h = rw (same_word a, same_word b) at h

-- an entry without a fence is the same without it
pub plain_entry : (e : List ℕ) → (is_fenced e ≡ true → ⊥) → unfenced e ≡ e
plain_entry e none =
    elim (cases_Bool (is_fenced e)) [
      | inl set ↦ absurd (none set)
      | inr clear ↦
          let odd : get_or e 4 0 % 2 ≢ 1 = eqb-false (get_or e 4 0 % 2) 1 clear in
          let same : get_or e 4 0 - get_or e 4 0 % 2 ≡ get_or e 4 0 = omega (arith, odd) in
          rw same (set-get_or e 4 0)
    ]

-- a descriptor's bytes have no fence
pub lowest_unset : (f : Fields) → IsListed f → get_or (spelling f) 4 0 % 2 ≡ 0
unfolding spelling
lowest_unset f listed = omega (arith, no_fence f listed)

pub unfenced_spelling : (d : Descriptor) → is_fenced (spelling (fields d)) ≡ true → ⊥
unfenced_spelling d e =
    let odd : get_or (spelling (fields d)) 4 0 % 2 ≡ 1 = eqb-true _ _ e in
    absurd (omega (arith, lowest_unset (fields d) d.listed, odd))

-- ---- all entries

length-joined : (n : ℕ) (bytes : List ℕ) → 64 * n ≤ length bytes → length (flat_map unfenced (first_chunks 64 n bytes)) ≡ 64 * n
length-joined zero bytes le = refl
length-joined (suc n) bytes le =
    omega (
      arith,
      length-append (unfenced (take 64 bytes)) (flat_map unfenced (first_chunks 64 n (drop 64 bytes))),
      length-unfenced (take 64 bytes),
      length-take-le 64 bytes (omega (arith, le)),
      length-joined n (drop 64 bytes) (omega (arith, le, length-drop 64 bytes)),
    )

chunks_joined : (n : ℕ) (bytes rest : List ℕ) → 64 * n ≤ length bytes → first_chunks 64 n (flat_map unfenced (first_chunks 64 n bytes) ++ rest) ≡ map unfenced (first_chunks 64 n bytes)
chunks_joined zero bytes rest le = refl
chunks_joined (suc n) bytes rest le =
    let front = unfenced (take 64 bytes) in
    let others = flat_map unfenced (first_chunks 64 n (drop 64 bytes)) in
    let long : length front ≡ 64 = length-unfenced (take 64 bytes) ∙ length-take-le 64 bytes (omega (arith, le)) in
    let less : 64 * n ≤ length (drop 64 bytes) = omega (arith, le, length-drop 64 bytes) in
    rw (append_assoc front others rest, take_at front (others ++ rest) 64 long, drop_at front (others ++ rest) 64 long, chunks_joined n (drop 64 bytes) rest less) refl

length-unfenced_list : (bytes : List ℕ) → length (unfenced_list bytes) ≡ length bytes
length-unfenced_list bytes =
    omega (
      arith,
      length-append (flat_map unfenced (entries bytes)) (drop (64 * (length bytes / 64)) bytes),
      length-joined (length bytes / 64) bytes (omega arith),
      length-drop (64 * (length bytes / 64)) bytes,
    )

pub entries_unfenced : (bytes : List ℕ) → entries (unfenced_list bytes) ≡ map unfenced (entries bytes)
entries_unfenced bytes =
    ap (λ (n : ℕ). first_chunks 64 (n / 64) (unfenced_list bytes)) (length-unfenced_list bytes)
    ∙ chunks_joined (length bytes / 64) bytes (drop (64 * (length bytes / 64)) bytes) (omega arith)

pub length-seen_list : (t : Bool) (bytes : List ℕ) → length (seen_list t bytes) ≡ length bytes
length-seen_list false bytes = refl
length-seen_list true bytes = length-unfenced_list bytes

-- entry i as it is read
pub entry_seen : (t : Bool) (bytes : List ℕ) (i : ℕ) → i < length bytes / 64 → entry (seen_list t bytes) i ≡ seen_entry t (entry bytes i)
entry_seen false bytes i lt = refl
entry_seen true bytes i lt =
    ap (λ (es : List (List ℕ)). get_or es i []) (entries_unfenced bytes)
    ∙ get_or-map unfenced (entries bytes) i [] [] (omega (arith, lt, length-chunks (length bytes / 64) bytes))

-- ---- marks

set_length : (b : Bool) (marks : List Bool) (n : ℕ) → length marks ≡ n → cond b marks [] ≢ [] → length (cond b marks []) ≡ n
set_length true marks n count some = count
set_length false marks n count some = absurd (some refl)

length-after_first : (marks : List Bool) → length (after_first marks) ≡ length marks
length-after_first [] = refl
length-after_first (mark ∷ marks) = refl

-- the barriers are none, or there is a mark for each
pub barriers_count : (barriers marks : List Bool) (n : ℕ) → barriers ≡ set_marks (after_first marks) → length marks ≡ n → barriers ≢ [] → length barriers ≡ n
barriers_count barriers marks n is count some =
    ap length is
    ∙ set_length (list_any (λ mark. mark) (after_first marks)) (after_first marks) n (length-after_first marks ∙ count) (λ none. some (is ∙ none))

pub list_any-of : (bs : List (List ℕ)) → list_any (λ mark. mark) (map is_fenced bs) ≡ list_any is_fenced bs
list_any-of [] = refl
list_any-of (b ∷ bs) = ap (λ (r : Bool). is_fenced b || r) (list_any-of bs)

pub left_false : (a b : Bool) → (a || b) ≡ false → a ≡ false
left_false true b none = absurd cc
left_false false b none = refl

pub right_false : (a b : Bool) → (a || b) ≡ false → b ≡ false
right_false true b none = absurd cc
right_false false b none = none

none_after_first : (all : List (List ℕ)) → list_any is_fenced all ≡ false → list_any (λ mark. mark) (after_first (map is_fenced all)) ≡ false
none_after_first [] none = refl
none_after_first (e ∷ es) none = list_any-of es ∙ right_false (is_fenced e) (list_any is_fenced es) none

pub cond_false : (b : Bool) (marks : List Bool) → b ≡ false → cond b marks [] ≡ []
cond_false true marks is = absurd cc
cond_false false marks is = refl

-- entries without a fence have no barriers
pub no_barriers : (all : List (List ℕ)) → list_any is_fenced all ≡ false → set_marks (after_first (map is_fenced all)) ≡ []
no_barriers all none = cond_false (list_any (λ mark. mark) (after_first (map is_fenced all))) (after_first (map is_fenced all)) (none_after_first all none)

or_false : (b : Bool) → (b || false) ≡ b
or_false true = refl
or_false false = refl

-- whether an entry so far has a fence, with one entry more
pub fenced_more : (all : List (List ℕ)) (i : ℕ) → i < length all → list_any is_fenced (take (i + 1) all) ≡ (list_any is_fenced (take i all) || is_fenced (get_or all i []))
fenced_more all i lt =
    let next : i + 1 ≡ suc i = omega arith in
    ap (λ (n : ℕ). list_any is_fenced (take n all)) next
    ∙ ap (list_any is_fenced) (take-suc all i [] lt)
    ∙ list_any-append is_fenced (take i all) (get_or all i [] ∷ [])
    ∙ ap (λ (b : Bool). list_any is_fenced (take i all) || b) (or_false (is_fenced (get_or all i [])))

-- the same, if fences may be there
pub noted_none : (t : Bool) → false ≡ (t && false)
noted_none true = refl
noted_none false = refl

pub noted_more : (t : Bool) (all : List (List ℕ)) (i : ℕ) (noted : Bool) → i < length all → noted ≡ (t && list_any is_fenced (take i all))
    → (t && (noted || is_fenced (get_or all i []))) ≡ (t && list_any is_fenced (take (i + 1) all))
noted_more true all i noted lt is = ap (λ (b : Bool). b || is_fenced (get_or all i [])) is ∙ sym (fenced_more all i lt)
noted_more false all i noted lt is = refl

-- and with all
pub fenced_all : (bytes : List ℕ) (all : List (List ℕ)) (i : ℕ) → all ≡ entries bytes → length all ≤ i → list_any is_fenced (take i all) ≡ list_any is_fenced (entries bytes)
fenced_all bytes all i front end = ap (list_any is_fenced) (take_all i all end ∙ front)

-- ---- one entry more, if all are the entries of the bytes
module _ (E : Type 0) (spell : E → List ℕ) (keeps : List ℕ → FieldFault → Type 0) (are : AreEntries spell keeps) (t : Bool) (bytes : List ℕ) where
  pub seen_length : length bytes % 64 ≢ 0 → IsFirstFaultBy keeps (seen_list t bytes) Length
  seen_length other e = other (omega (arith, e, length-seen_list t bytes))

  module _ (all : List (List ℕ)) (front : all ≡ entries bytes) (i : ℕ) (lt : i < length all) where
    count : length all ≡ length bytes / 64
    count = ap length front ∙ length-chunks (length bytes / 64) bytes

    at : (j : ℕ) → j < length all → entry (seen_list t bytes) j ≡ seen_entry t (get_or all j [])
    at j less = entry_seen t bytes j (omega (arith, less, count)) ∙ ap (λ (es : List (List ℕ)). seen_entry t (get_or es j [])) (sym front)

    inside : i < length (seen_list t bytes) / 64
    inside = omega (arith, lt, count, length-seen_list t bytes)

    pub seen_field : (fault : FieldFault) → length bytes % 64 ≡ 0 → ((j : ℕ) → j < i → IsSoundAt keeps (seen_list t bytes) j) → IsFirstBreach keeps (seen_entry t (get_or all i [])) fault → IsFirstFaultBy keeps (seen_list t bytes) (Field i fault)
    seen_field fault whole before first = (
      record { whole = omega (arith, whole, length-seen_list t bytes); inside = inside; before = before },
      subst (λ (e : List ℕ). IsFirstBreach keeps e fault) (sym (at i lt)) first,
    )

    module _ (e : E) (here : seen_entry t (get_or all i []) ≡ spell e) where
      pub seen_sound : AgreeOnOwner (get_or all 0 []) (get_or all i []) → IsSoundAt keeps (seen_list t bytes) i
      seen_sound agree =
          let first = at 0 (omega (arith, lt)) in
          record {
            kept = kept_by E spell keeps are (entry (seen_list t bytes) i) e (at i lt ∙ here);
            owner = rw (first, at i lt) (owner_seen t (get_or all 0 []) (get_or all i []) agree);
          }

      pub seen_mixed : length bytes % 64 ≡ 0 → ((j : ℕ) → j < i → IsSoundAt keeps (seen_list t bytes) j) → ¬ AgreeOnOwner (get_or all 0 []) (get_or all i []) → IsFirstFaultBy keeps (seen_list t bytes) (MixedPasid i)
      seen_mixed whole before differ =
          let first = at 0 (omega (arith, lt)) in (
            record { whole = omega (arith, whole, length-seen_list t bytes); inside = inside; before = before },
            kept_by E spell keeps are (entry (seen_list t bytes) i) e (at i lt ∙ here),
            λ agree. differ (owner_back t (get_or all 0 []) (get_or all i []) (rw (first, at i lt) at agree)),
          )

      pub seen_spelt : (es : List E) → flat_map spell es ≡ take (64 * i) (seen_list t bytes) → flat_map spell (es ++ e ∷ []) ≡ take (64 * (i + 1)) (seen_list t bytes)
      seen_spelt es so_far = spelt_more E spell keeps are (seen_list t bytes) (length (seen_list t bytes) / 64) es i e inside so_far (at i lt ∙ here)

  -- ---- the whole list

  pub seen_all : (n i : ℕ) (es : List E) → length bytes % 64 ≡ 0 → n ≡ length bytes / 64 → n ≤ i → flat_map spell es ≡ take (64 * i) (seen_list t bytes) → seen_list t bytes ≡ flat_map spell es
  seen_all n i es whole count end so_far =
      spelt_all E spell keeps are (seen_list t bytes) es i (omega (arith, whole, length-seen_list t bytes)) (omega (arith, end, count, length-seen_list t bytes)) so_far

  pub seen_sound_all : (n i : ℕ) → length bytes % 64 ≡ 0 → n ≡ length bytes / 64 → n ≤ i → ((j : ℕ) → j < i → IsSoundAt keeps (seen_list t bytes) j) → IsSound keeps (seen_list t bytes)
  seen_sound_all n i whole count end sound = record {
    whole = omega (arith, whole, length-seen_list t bytes);
    sound = λ j lt. sound j (omega (arith, lt, end, count, length-seen_list t bytes));
  }

  -- there is a flag for each entry
  pub fences_count : (es : List E) → unfenced_list bytes ≡ flat_map spell es → length (fences_of bytes) ≡ length es
  fences_count es read =
      let long : length bytes ≡ 64 * length es = sym (length-unfenced_list bytes) ∙ ap length read ∙ length-entries_spelling E spell keeps are es in
      length-map (entries bytes) is_fenced ∙ length-chunks (length bytes / 64) bytes ∙ omega (arith, long)
