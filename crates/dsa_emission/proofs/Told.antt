-- What the bytes of an emission tell: one plan and one list of pieces.
use Rattle.std.proofs.Common.{ℕ, zero, suc, ◌≡◌, ◌+◌, ◌*◌, ◌^◌, ◌<◌, ◌≤◌, inl, inr, false, cond, List, [], ◌∷◌, ◌++◌, length, take, drop, get_or, Some, refl, sym, ap, ◌∙◌, subst, slice_get, sum_by, arith}
use Rattle.std.specs.Prelude.{map, slice_index_or, replicate, nat_lt}
use Rattle.std.proofs.Math.Seq.{take-add}
use Rattle.std.proofs.lemmas.Bool.{cases_lt}
use Rattle.std.proofs.lemmas.List.{take_all, length-append, length-drop, length-take, take_at, drop_at, drop-map, drop-drop, drop_more, same_lists, get_or_default}
use Rattle.std.proofs.lemmas.List.Sums.{sum_by-cons}
use Rattle.std.proofs.lemmas.Option.{same_Some, slice_get_within, slice_get-get_or, get_or_from_slice_get}
use Rattle.std.proofs.lemmas.Nat.{from_le_bytes-to_le_bytes_4}
use Rattle.dsa_descriptor.specs.declared.descriptor.Descriptor.{Descriptor}
use Rattle.dsa_descriptor.specs.Descriptors.{fields}
use Rattle.dsa_descriptor.specs.Fences.{fenced}
use Rattle.dsa_descriptor.specs.Fields.{Fields}
use Rattle.dsa_descriptor.specs.Lists.{AreEntries}
use Rattle.dsa_descriptor.specs.Places.{u32_at}
use Rattle.dsa_descriptor.specs.Spelling.{spelling}
use Rattle.dsa_descriptor.proofs.Listed.{are_entries}
use Rattle.dsa_ranges.specs.Pieces.{Kind, descriptors}
use Rattle.dsa_emission.specs.declared.place.Place.{Place}
use Rattle.dsa_settings.specs.Plan.{Group, Plan, piece_count, start_of}
use Rattle.dsa_settings.specs.Settings.{Limits}
use Rattle.dsa_emission.specs.Emission.{batched, batch_count, batched_count, place_of, batch_spelling, group_entry, fenced_pieces, group_staged, joined, portal_of, staging_of, portal_entry, fenced_spelling, staged, portal_bytes, staging_bytes, CanBeEmitted, CanBeEmittedAs}
use Rattle.dsa_settings.proofs.Plans.{EachGroup, each_group}
use Rattle.dsa_emission.proofs.OfDescriptors.{can_as}
use Rattle.dsa_emission.proofs.Places.{batch_yes, batch_no, group_batch, group_lone, batch_pieces, lone_pieces, batch_staged, placed, IsPlaced, entry_map, portal_map, staging_map}
use Rattle.dsa_emission.proofs.Spelt.{length-fenced_by, one_fenced_by}

-- ---- lists

append_same : (a b c d : List ℕ) → a ++ b ≡ c ++ d → length b ≡ length d → (a ≡ c) × (b ≡ d)
append_same a b c d e long =
    let n : length a ≡ length c = omega (arith, ap length e, length-append a b, length-append c d) in (
      sym (take_at a b (length c) n) ∙ ap (take (length c)) e ∙ take_at c d (length c) refl,
      sym (drop_at a b (length c) n) ∙ ap (drop (length c)) e ∙ drop_at c d (length c) refl,
    )

-- the same parts one after another
pub joined_parts : (part other : ℕ → List ℕ) (n : ℕ) → ((k : ℕ) → k < n → length (part k) ≡ length (other k)) → joined part n ≡ joined other n → (k : ℕ) → k < n → part k ≡ other k
joined_parts part other zero long e k lt = absurd (omega arith)
joined_parts part other (suc n) long e k lt =
    let both = append_same (joined part n) (part n) (joined other n) (other n) e (long n (omega arith)) in
    elim (cases_lt k n) [
      | inl less ↦ joined_parts part other n (λ j below. long j (omega arith)) both.0 k less
      | inr most ↦ let same : n ≡ k = omega arith in subst (λ (z : ℕ). part z ≡ other z) same both.1
    ]

pub length-joined : (part : ℕ → List ℕ) (size n : ℕ) → ((k : ℕ) → k < n → length (part k) ≡ size) → length (joined part n) ≡ size * n
length-joined part size zero long = omega arith
length-joined part size (suc n) long =
    let before : length (joined part n) ≡ size * n = length-joined part size n (λ k lt. long k (omega arith)) in
    let more : size * suc n ≡ size * n + size = omega arith in
    omega (arith, length-append (joined part n) (part n), long n (omega arith))

-- ---- the entry of a batch

-- what its bytes tell
pub record TellsBatch (bytes : List ℕ) (count : ℕ) : Type 0 where
  pub code : get_or bytes 7 0 ≡ 1
  pub size : count < 2 ^ 32 → u32_at 32 bytes ≡ count
  pub long : length bytes ≡ 64

batch_tells : (owner : List ℕ) (record_at list_at count : ℕ) → length owner ≡ 4 → TellsBatch (batch_spelling owner record_at list_at count) count
unfolding batch_spelling u32_at
batch_tells [] record_at list_at count four = absurd (omega arith)
batch_tells (_ ∷ []) record_at list_at count four = absurd (omega arith)
batch_tells (_ ∷ _ ∷ []) record_at list_at count four = absurd (omega arith)
batch_tells (_ ∷ _ ∷ _ ∷ []) record_at list_at count four = absurd (omega arith)
batch_tells (_ ∷ _ ∷ _ ∷ _ ∷ []) record_at list_at count four = record { code = refl; size = λ lt. from_le_bytes-to_le_bytes_4 count lt; long = refl }
batch_tells (_ ∷ _ ∷ _ ∷ _ ∷ _ ∷ _) record_at list_at count four = absurd (omega arith)

-- ---- groups

pub some_at : {P : Type 0} (ps : List P) (i : ℕ) → i < length ps → (p : P) × (p ≡ get_or ps i p)
some_at [] i lt = absurd (omega arith)
some_at (p ∷ ps) zero lt = (p, refl)
some_at (p ∷ ps) (suc i) lt = some_at ps i (omega arith)

-- the group has pieces, and they are in the list
pub record Fits {P : Type 0} (place : Place) (g : Group) (ps : List P) : Type 0 where
  pub nonempty : 0 < length g
  pub room : place.start + length g ≤ length ps
  pub few : length ps ≤ 65536

abbrev pub group_at : Plan → ℕ → Group
group_at plan k = slice_index_or plan k []

pub is_group_at : (plan : Plan) (k : ℕ) → k < length plan → slice_get plan k ≡ Some (group_at plan k)
is_group_at plan k lt = slice_get-get_or plan k [] lt

lone_flags : (g : Group) → length g ≡ 1 → slice_get g 0 ≡ Some false → g ≡ false ∷ []
lone_flags [] one first = absurd (omega arith)
lone_flags (x ∷ []) one first = let is : x ≡ false = same_Some x false first in λ i. is i ∷ []
lone_flags (x ∷ y ∷ g) one first = absurd (omega arith)

lone_cut : {P : Type 0} (ps : List P) (i : ℕ) (p : P) → i < length ps → p ≡ get_or ps i p → take 1 (drop i ps) ≡ p ∷ []
lone_cut ps i p within is = ap (take 1) (drop_more ps i p within) ∙ (λ j. sym is j ∷ [])

-- two groups with the same fences and the same pieces
record SameGroup {P : Type 0} (start : ℕ) (g g' : Group) (ps ps' : List P) : Type 0 where
  flags : g ≡ g'
  pieces : take (length g) (drop start ps) ≡ take (length g) (drop start ps')

-- two plans with groups of the same sizes
record SameSizes (plan plan' : Plan) : Type 0 where
  count : length plan ≡ length plan'
  sizes : (k : ℕ) → k < length plan → length (slice_index_or plan k []) ≡ length (slice_index_or plan' k [])

sums_same : (u : ℕ → ℕ) (plan plan' : Plan) (m : ℕ) → SameSizes plan plan' → sum_by (λ (g : Group). u (length g)) (take m plan) ≡ sum_by (λ (g : Group). u (length g)) (take m plan')
sums_same u plan plan' zero same = refl
sums_same u [] [] (suc m) same = refl
sums_same u [] (g' ∷ rest') (suc m) same = absurd (omega (arith, same.count))
sums_same u (g ∷ rest) [] (suc m) same = absurd (omega (arith, same.count))
sums_same u (g ∷ rest) (g' ∷ rest') (suc m) same =
    let first : u (length g) ≡ u (length g') = ap u (same.sizes 0 (omega arith)) in
    let later : sum_by (λ (g : Group). u (length g)) (take m rest) ≡ sum_by (λ (g : Group). u (length g)) (take m rest') =
    sums_same u rest rest' m (record { count = omega (arith, same.count); sizes = λ k lt. same.sizes (suc k) (omega arith) }) in
    omega (arith, first, later, sum_by-cons (λ (g : Group). u (length g)) g (take m rest), sum_by-cons (λ (g : Group). u (length g)) g' (take m rest'))

place_same : (plan plan' : Plan) (m : ℕ) → SameSizes plan plan' → place_of plan m ≡ place_of plan' m
place_same plan plan' m same =
    let a = sums_same (λ n. n) plan plan' m same in
    let b = sums_same (λ n. cond (nat_lt 1 n) 1 0) plan plan' m same in
    let c = sums_same (λ n. cond (nat_lt 1 n) n 0) plan plan' m same in
    λ i. record { start = a i; batches = b i; batched = c i }

-- pieces that are the same in each group
cuts_same : {P : Type 0} (start : ℕ) (plan : Plan) (ps ps' : List P) → EachGroup (λ s g. take (length g) (drop s ps) ≡ take (length g) (drop s ps')) start plan →
    take (piece_count plan) (drop start ps) ≡ take (piece_count plan) (drop start ps')
cuts_same start [] ps ps' each = refl
cuts_same start (g ∷ rest) ps ps' each =
    let later : take (piece_count rest) (drop (start + length g) ps) ≡ take (piece_count rest) (drop (start + length g) ps') = cuts_same (start + length g) rest ps ps' each.1 in
    let sum : piece_count (g ∷ rest) ≡ length g + piece_count rest = sum_by-cons length g rest in
    rw (sum, take-add (length g) (piece_count rest) (drop start ps), take-add (length g) (piece_count rest) (drop start ps'), drop-drop (length g) start ps, drop-drop (length g) start ps')
    (λ i. each.0 i ++ later i)

-- ---- pieces of a kind

-- the entry of that group
abbrev pub entry_of : {P : Type 0} → (P → List ℕ) → Limits → Plan → List P → ℕ → List ℕ
entry_of spell s plan ps k = group_entry spell s (batched_count plan) (place_of plan k) (group_at plan k) ps

-- what it has in the staging area
abbrev pub staged_of : {P : Type 0} → (P → List ℕ) → Plan → List P → ℕ → List ℕ
staged_of spell plan ps k = group_staged spell (place_of plan k) (group_at plan k) ps

module _ (P : Type 0) (kind : Kind P) (are : AreEntries kind.spelling kind.keeps) where
  -- the bytes of a batch of that owner
  pub batch_by : (p : P) (record_at list_at count : ℕ) → TellsBatch (batch_spelling (take 4 (kind.spelling p)) record_at list_at count) count
  batch_by p record_at list_at count =
      batch_tells (take 4 (kind.spelling p)) record_at list_at count (omega (arith, length-take 4 (kind.spelling p), are.whole p))

  -- ---- the entry of one group

  pub batch_is : (s : Limits) (total : ℕ) (place : Place) (g : Group) (ps : List P) → Fits place g ps → 1 < length g →
      (p : P) × (group_entry kind.spelling s total place g ps ≡ batch_spelling (take 4 (kind.spelling p)) (s.staging + 64 * total + 32 * place.batches) (s.staging + 64 * place.batched) (length g))
  batch_is s total place g ps fits more =
      let some : 0 < length ps = omega (arith, fits.nonempty, fits.room) in
      let (p, is) = some_at ps 0 some in
      (p, group_batch P kind.spelling s total place g ps p more some (are.whole p) is)

  pub lone_is : (s : Limits) (total : ℕ) (place : Place) (g : Group) (ps : List P) → Fits place g ps → length g ≡ 1 →
      (p : P) × (group_entry kind.spelling s total place g ps ≡ kind.spelling p) × (p ≡ get_or ps place.start p)
  lone_is s total place g ps fits one =
      let within : place.start < length ps = omega (arith, fits.nonempty, fits.room) in
      let (p, is) = some_at ps place.start within in
      (p, group_lone P kind.spelling s total place g ps p one within is, is)

  pub length-entry : (s : Limits) (total : ℕ) (place : Place) (g : Group) (ps : List P) → Fits place g ps → length (group_entry kind.spelling s total place g ps) ≡ 64
  length-entry s total place g ps fits =
      elim (cases_lt 1 (length g)) [
        | inl more ↦
            let (p, is) = batch_is s total place g ps fits more in
            ap length is ∙ (batch_by p (s.staging + 64 * total + 32 * place.batches) (s.staging + 64 * place.batched) (length g)).long
        | inr few ↦
            let (p, is, at) = lone_is s total place g ps fits (omega (arith, fits.nonempty)) in
            ap length is ∙ are.whole p
      ]

  -- the entry gives the size of the group
  size_told : (s : Limits) (total total' : ℕ) (place place' : Place) (g g' : Group) (ps ps' : List P) → Fits place g ps → Fits place' g' ps' →
      group_entry kind.spelling s total place g ps ≡ group_entry kind.spelling s total' place' g' ps' → length g ≡ length g'
  size_told s total total' place place' g g' ps ps' fits fits' same =
      elim (cases_lt 1 (length g)) [
        | inl more ↦
            let (d, is) = batch_is s total place g ps fits more in
            elim (cases_lt 1 (length g')) [
              | inl more' ↦
                  let (e, is') = batch_is s total' place' g' ps' fits' more' in
                  sym ((batch_by d (s.staging + 64 * total + 32 * place.batches) (s.staging + 64 * place.batched) (length g)).size (omega (arith, fits.room, fits.few)))
                  ∙ ap (u32_at 32) (sym is ∙ same ∙ is')
                  ∙ (batch_by e (s.staging + 64 * total' + 32 * place'.batches) (s.staging + 64 * place'.batched) (length g')).size (omega (arith, fits'.room, fits'.few))
              | inr few' ↦
                  let (e, is', at) = lone_is s total' place' g' ps' fits' (omega (arith, fits'.nonempty)) in
                  absurd (are.single e (ap (λ (bytes : List ℕ). get_or bytes 7 0) (sym is' ∙ sym same ∙ is) ∙ (batch_by d (s.staging + 64 * total + 32 * place.batches) (s.staging + 64 * place.batched) (length g)).code))
            ]
        | inr few ↦
            let (d, is, at) = lone_is s total place g ps fits (omega (arith, fits.nonempty)) in
            elim (cases_lt 1 (length g')) [
              | inl more' ↦
                  let (e, is') = batch_is s total' place' g' ps' fits' more' in
                  absurd (are.single d (ap (λ (bytes : List ℕ). get_or bytes 7 0) (sym is ∙ same ∙ is') ∙ (batch_by e (s.staging + 64 * total' + 32 * place'.batches) (s.staging + 64 * place'.batched) (length g')).code))
              | inr few' ↦ omega (arith, fits.nonempty, fits'.nonempty)
            ]
      ]

  -- ---- the pieces of one batch

  pub length-pieces : (g : Group) (ps : List P) → length g ≤ length ps → length (fenced_pieces kind.spelling g ps) ≡ 64 * length g
  length-pieces [] ps within = omega arith
  length-pieces (x ∷ g) [] within = absurd (omega arith)
  length-pieces (x ∷ g) (p ∷ ps) within =
      omega (arith, length-append (fenced x (kind.spelling p)) (fenced_pieces kind.spelling g ps), length-fenced_by P kind are x p, length-pieces g ps (omega arith))

  pieces_told : (g g' : Group) (es es' : List P) → length g ≡ length g' → length g ≤ length es → length g ≤ length es' →
      fenced_pieces kind.spelling g es ≡ fenced_pieces kind.spelling g' es' → (g ≡ g') × (take (length g) es ≡ take (length g) es')
  pieces_told [] [] es es' size within within' same = (refl, refl)
  pieces_told [] (x ∷ g') es es' size within within' same = absurd (omega arith)
  pieces_told (x ∷ g) [] es es' size within within' same = absurd (omega arith)
  pieces_told (x ∷ g) (y ∷ g') [] es' size within within' same = absurd (omega arith)
  pieces_told (x ∷ g) (y ∷ g') (e ∷ es) [] size within within' same = absurd (omega arith)
  pieces_told (x ∷ g) (y ∷ g') (e ∷ es) (d ∷ es') size within within' same =
      let long : length (fenced_pieces kind.spelling g es) ≡ length (fenced_pieces kind.spelling g' es') =
      omega (arith, length-pieces g es (omega arith), length-pieces g' es' (omega arith)) in
      let both = append_same (fenced x (kind.spelling e)) (fenced_pieces kind.spelling g es) (fenced y (kind.spelling d)) (fenced_pieces kind.spelling g' es') same long in
      let first = one_fenced_by P kind are e d x y both.0 in
      let later = pieces_told g g' es es' (omega arith) (omega arith) (omega arith) both.1 in
      let flag : x ≡ y = first.0 in
      let flags : g ≡ g' = later.0 in
      let piece : e ≡ d = first.1 in
      let pieces : take (length g) es ≡ take (length g) es' = later.1 in
      (λ i. flag i ∷ flags i, λ i. piece i ∷ pieces i)

  pub length-staged : (place : Place) (g : Group) (ps : List P) → Fits place g ps → length (group_staged kind.spelling place g ps) ≡ 64 * batched g
  length-staged place g ps fits =
      elim (cases_lt 1 (length g)) [
        | inl more ↦
            let size : batched g ≡ length g = rw (batch_yes g more) refl in
            ap length (batch_pieces P kind.spelling place g ps more) ∙ length-pieces g (drop place.start ps) (omega (arith, length-drop place.start ps, fits.room)) ∙ ap (λ (n : ℕ). 64 * n) (sym size)
        | inr few ↦
            let none : batched g ≡ 0 = rw (batch_no g (λ more. absurd (omega arith))) refl in
            ap length (lone_pieces P kind.spelling place g ps (λ more. absurd (omega arith))) ∙ ap (λ (n : ℕ). 64 * n) (sym none)
      ]

  -- the bytes of a group tell its fences and its pieces
  group_told : (s : Limits) (total : ℕ) (place : Place) (g g' : Group) (ps ps' : List P) → Fits place g ps → Fits place g' ps' → length g ≡ length g' →
      slice_get g 0 ≡ Some false → slice_get g' 0 ≡ Some false → group_entry kind.spelling s total place g ps ≡ group_entry kind.spelling s total place g' ps' →
      group_staged kind.spelling place g ps ≡ group_staged kind.spelling place g' ps' → SameGroup place.start g g' ps ps'
  group_told s total place g g' ps ps' fits fits' size first first' entry bytes =
      elim (cases_lt 1 (length g)) [
        | inl more ↦
            let both = pieces_told g g' (drop place.start ps) (drop place.start ps') size (omega (arith, length-drop place.start ps, fits.room)) (omega (arith, length-drop place.start ps', fits'.room))
            (sym (batch_pieces P kind.spelling place g ps more) ∙ bytes ∙ batch_pieces P kind.spelling place g' ps' (omega arith)) in
            record { flags = both.0; pieces = both.1 }
        | inr few ↦
            let one : length g ≡ 1 = omega (arith, fits.nonempty) in
            let one' : length g' ≡ 1 = omega arith in
            let (d, is, at) = lone_is s total place g ps fits one in
            let (e, is', at') = lone_is s total place g' ps' fits' one' in
            let piece : d ≡ e = are.one d e (sym is ∙ entry ∙ is') in
            let left : take 1 (drop place.start ps) ≡ d ∷ [] = lone_cut ps place.start d (omega (arith, fits.room)) at in
            let right : take 1 (drop place.start ps') ≡ e ∷ [] = lone_cut ps' place.start e (omega (arith, fits'.room)) at' in
            record {
              flags = lone_flags g one first ∙ sym (lone_flags g' one' first');
              pieces = rw one (left ∙ (λ i. piece i ∷ []) ∙ sym right);
            }
      ]

  -- ---- the whole emission

  pub fits_by : (s : Limits) (plan : Plan) (ps : List P) → CanBeEmittedAs kind s plan ps → (k : ℕ) → k < length plan → Fits (place_of plan k) (group_at plan k) ps
  fits_by s plan ps h k lt =
      let here : IsPlaced plan k (group_at plan k) = placed plan k (group_at plan k) lt (get_or_default plan k [] (group_at plan k) lt) in
      record {
        nonempty = (h.shapes k (group_at plan k) (is_group_at plan k lt)).size.nonempty;
        room = omega (arith, here.room, h.covers);
        few = h.few;
      }

  sizes_told : (s : Limits) (plan plan' : Plan) (ps ps' : List P) → CanBeEmittedAs kind s plan ps → CanBeEmittedAs kind s plan' ps' →
      portal_of kind.spelling s plan ps ≡ portal_of kind.spelling s plan' ps' → SameSizes plan plan'
  sizes_told s plan plan' ps ps' h h' p = record {
    count = count;
    sizes = λ k lt.
        size_told s (batched_count plan) (batched_count plan') (place_of plan k) (place_of plan' k) (group_at plan k) (group_at plan' k) ps ps'
        (fits_by s plan ps h k lt) (fits_by s plan' ps' h' k (omega (arith, count)))
        (joined_parts (entry_of kind.spelling s plan ps) (entry_of kind.spelling s plan' ps') (length plan) (λ j below. long j below ∙ sym (long' j (omega (arith, count)))) again k lt);
  }
    where
      long : (k : ℕ) → k < length plan → length (entry_of kind.spelling s plan ps k) ≡ 64
      long k lt = length-entry s (batched_count plan) (place_of plan k) (group_at plan k) ps (fits_by s plan ps h k lt)

      long' : (k : ℕ) → k < length plan' → length (entry_of kind.spelling s plan' ps' k) ≡ 64
      long' k lt = length-entry s (batched_count plan') (place_of plan' k) (group_at plan' k) ps' (fits_by s plan' ps' h' k lt)

      count : length plan ≡ length plan'
      count = omega (arith, ap length p, length-joined (entry_of kind.spelling s plan ps) 64 (length plan) long, length-joined (entry_of kind.spelling s plan' ps') 64 (length plan') long')

      again : joined (entry_of kind.spelling s plan ps) (length plan) ≡ joined (entry_of kind.spelling s plan' ps') (length plan)
      again = p ∙ ap (λ (n : ℕ). joined (entry_of kind.spelling s plan' ps') n) (sym count)

  pub one_emission_by : (s : Limits) (plan plan' : Plan) (ps ps' : List P) → CanBeEmittedAs kind s plan ps → CanBeEmittedAs kind s plan' ps' →
      portal_of kind.spelling s plan ps ≡ portal_of kind.spelling s plan' ps' → staging_of kind.spelling plan ps ≡ staging_of kind.spelling plan' ps' → (plan ≡ plan') × (ps ≡ ps')
  one_emission_by s plan plan' ps ps' h h' p q = (same_plan, same_pieces)
    where
      same : SameSizes plan plan'
      same = sizes_told s plan plan' ps ps' h h' p

      count : length plan ≡ length plan'
      count = same.count

      total : batched_count plan ≡ batched_count plan'
      total =
          ap batched_count (sym (take_all (length plan) plan (omega arith))) ∙ sums_same (λ n. cond (nat_lt 1 n) n 0) plan plan' (length plan) same
          ∙ ap batched_count (take_all (length plan) plan' (omega (arith, count)))

      batches : batch_count plan ≡ batch_count plan'
      batches =
          ap batch_count (sym (take_all (length plan) plan (omega arith))) ∙ sums_same (λ n. cond (nat_lt 1 n) 1 0) plan plan' (length plan) same
          ∙ ap batch_count (take_all (length plan) plan' (omega (arith, count)))

      long : (k : ℕ) → k < length plan → length (entry_of kind.spelling s plan ps k) ≡ length (entry_of kind.spelling s plan' ps' k)
      long k lt =
          length-entry s (batched_count plan) (place_of plan k) (group_at plan k) ps (fits_by s plan ps h k lt)
          ∙ sym (length-entry s (batched_count plan') (place_of plan' k) (group_at plan' k) ps' (fits_by s plan' ps' h' k (omega (arith, count))))

      entries : (k : ℕ) → k < length plan → entry_of kind.spelling s plan ps k ≡ entry_of kind.spelling s plan' ps' k
      entries = joined_parts (entry_of kind.spelling s plan ps) (entry_of kind.spelling s plan' ps') (length plan) long (p ∙ ap (λ (n : ℕ). joined (entry_of kind.spelling s plan' ps') n) (sym count))

      long_staged : (k : ℕ) → k < length plan → length (staged_of kind.spelling plan ps k) ≡ length (staged_of kind.spelling plan' ps' k)
      long_staged k lt =
          let size : batched (group_at plan k) ≡ batched (group_at plan' k) = ap (λ (n : ℕ). cond (nat_lt 1 n) n 0) (same.sizes k lt) in
          length-staged (place_of plan k) (group_at plan k) ps (fits_by s plan ps h k lt) ∙ ap (λ (n : ℕ). 64 * n) size
          ∙ sym (length-staged (place_of plan' k) (group_at plan' k) ps' (fits_by s plan' ps' h' k (omega (arith, count))))

      zeros : length (replicate {A = ℕ} (32 * batch_count plan) 0) ≡ length (replicate {A = ℕ} (32 * batch_count plan') 0)
      zeros = ap (λ (n : ℕ). length (replicate {A = ℕ} (32 * n) 0)) batches

      staging : (k : ℕ) → k < length plan → staged_of kind.spelling plan ps k ≡ staged_of kind.spelling plan' ps' k
      staging =
          joined_parts (staged_of kind.spelling plan ps) (staged_of kind.spelling plan' ps') (length plan) long_staged
          ((append_same (joined (staged_of kind.spelling plan ps) (length plan)) (replicate (32 * batch_count plan) 0) (joined (staged_of kind.spelling plan' ps') (length plan')) (replicate (32 * batch_count plan') 0) q zeros).0
          ∙ ap (λ (n : ℕ). joined (staged_of kind.spelling plan' ps') n) (sym count))

      told : (k : ℕ) → k < length plan → SameGroup (start_of plan k) (group_at plan k) (group_at plan' k) ps ps'
      told k lt =
          let lt' : k < length plan' = omega (arith, count) in
          let place : place_of plan' k ≡ place_of plan k = sym (place_same plan plan' k same) in
          group_told s (batched_count plan) (place_of plan k) (group_at plan k) (group_at plan' k) ps ps' (fits_by s plan ps h k lt)
          (subst (λ (z : Place). Fits z (group_at plan' k) ps') place (fits_by s plan' ps' h' k lt')) (same.sizes k lt)
          (h.shapes k (group_at plan k) (is_group_at plan k lt)).begins (h'.shapes k (group_at plan' k) (is_group_at plan' k lt')).begins
          (entries k lt ∙ ap (λ (n : ℕ). group_entry kind.spelling s n (place_of plan' k) (group_at plan' k) ps') (sym total)
          ∙ ap (λ (z : Place). group_entry kind.spelling s (batched_count plan) z (group_at plan' k) ps') place)
          (staging k lt ∙ ap (λ (z : Place). group_staged kind.spelling z (group_at plan' k) ps') place)

      same_plan : plan ≡ plan'
      same_plan =
          same_lists plan plan' count
          (λ k d lt. get_or_default plan k d [] lt ∙ (told k lt).flags ∙ get_or_default plan' k [] d (omega (arith, count)))

      pieces : EachGroup (λ start g. take (length g) (drop start ps) ≡ take (length g) (drop start ps')) 0 plan
      pieces =
          each_group (λ start g. take (length g) (drop start ps) ≡ take (length g) (drop start ps')) plan
          (λ k g e.
          let lt : k < length plan = slice_get_within plan k g e in
          subst (λ (z : Group). take (length z) (drop (start_of plan k) ps) ≡ take (length z) (drop (start_of plan k) ps')) (get_or_from_slice_get plan k g [] e) (told k lt).pieces)

      whole : piece_count plan ≡ length ps
      whole = h.covers

      whole' : piece_count plan ≡ length ps'
      whole' = ap piece_count same_plan ∙ h'.covers

      same_pieces : ps ≡ ps'
      same_pieces =
          sym (take_all (piece_count plan) ps (omega (arith, whole))) ∙ cuts_same 0 plan ps ps' pieces ∙ take_all (piece_count plan) ps' (omega (arith, whole'))

-- ---- pieces that are descriptors

owner_four : (f : Fields) → length (take 4 (spelling f)) ≡ 4
unfolding spelling
owner_four f = refl

pub batch_code_told : (f : Fields) (record_at list_at count : ℕ) → get_or (batch_spelling (take 4 (spelling f)) record_at list_at count) 7 0 ≡ 1
batch_code_told f record_at list_at count = (batch_tells (take 4 (spelling f)) record_at list_at count (owner_four f)).code

pub count_told : (f : Fields) (record_at list_at count : ℕ) → count < 2 ^ 32 → u32_at 32 (batch_spelling (take 4 (spelling f)) record_at list_at count) ≡ count
count_told f record_at list_at count lt = (batch_tells (take 4 (spelling f)) record_at list_at count (owner_four f)).size lt

pub batch_entry_is : (s : Limits) (total : ℕ) (place : Place) (g : Group) (ds : List Descriptor) → Fits place g ds → 1 < length g →
    (d : Descriptor) × (portal_entry s total place g (map fields ds) ≡ batch_spelling (take 4 (spelling (fields d))) (s.staging + 64 * total + 32 * place.batches) (s.staging + 64 * place.batched) (length g))
batch_entry_is s total place g ds fits more =
    let (d, is) = batch_is Descriptor descriptors are_entries s total place g ds fits more in
    (d, sym (entry_map _ _ spelling fields s total place g ds) ∙ is)

pub lone_entry_is : (s : Limits) (total : ℕ) (place : Place) (g : Group) (ds : List Descriptor) → Fits place g ds → length g ≡ 1 →
    (d : Descriptor) × (portal_entry s total place g (map fields ds) ≡ spelling (fields d)) × (d ≡ get_or ds place.start d)
lone_entry_is s total place g ds fits one =
    let (d, is, at) = lone_is Descriptor descriptors are_entries s total place g ds fits one in
    (d, sym (entry_map _ _ spelling fields s total place g ds) ∙ is, at)

-- what a group has in the staging area, by its pieces
pub staged_batch : (place : Place) (g : Group) (ds : List Descriptor) → 1 < length g → staged place g (map fields ds) ≡ fenced_spelling g (map fields (drop place.start ds))
staged_batch place g ds more = batch_staged place g (map fields ds) more ∙ ap (λ (ps : List Fields). fenced_spelling g ps) (drop-map fields place.start ds)

abbrev pub staged_at : Plan → List Descriptor → ℕ → List ℕ
staged_at plan ds k = staged_of spelling plan (map fields ds) k

pub fits_at : (s : Limits) (plan : Plan) (ds : List Descriptor) → CanBeEmitted s plan (map fields ds) → (k : ℕ) → k < length plan → Fits (place_of plan k) (group_at plan k) ds
fits_at s plan ds h k lt = fits_by Descriptor descriptors are_entries s plan ds (can_as s plan ds h) k lt

pub one_emission : (s : Limits) (plan plan' : Plan) (ds ds' : List Descriptor) → CanBeEmitted s plan (map fields ds) → CanBeEmitted s plan' (map fields ds') →
    portal_bytes s plan (map fields ds) ≡ portal_bytes s plan' (map fields ds') → staging_bytes plan (map fields ds) ≡ staging_bytes plan' (map fields ds') → (plan ≡ plan') × (ds ≡ ds')
one_emission s plan plan' ds ds' h h' p q =
    one_emission_by Descriptor descriptors are_entries s plan plan' ds ds' (can_as s plan ds h) (can_as s plan' ds' h')
    (portal_map _ _ spelling fields s plan ds ∙ p ∙ sym (portal_map _ _ spelling fields s plan' ds'))
    (staging_map _ _ spelling fields plan ds ∙ q ∙ sym (staging_map _ _ spelling fields plan' ds'))
