-- What was read is an emission: the plan and the pieces have these bytes.
use Rattle.std.proofs.Common.{ℕ, ◌≡◌, ◌+◌, ◌*◌, ◌/◌, ◌%◌, ◌<◌, ◌≤◌, inl, inr, Bool, true, false, cond, List, [], ◌∷◌, length, take, drop, get_or, Some, refl, sym, ap, ◌∙◌, subst, slice_get, arith}
use Rattle.std.specs.Prelude.{slice_index_or, replicate}
use Rattle.std.proofs.lemmas.Bool.{cases_lt}
use Rattle.std.proofs.lemmas.List.{get_or-take, get_or-drop, length-take, length-drop}
use Rattle.std.proofs.lemmas.List.Elements.{All-head, All-tail}
use Rattle.std.proofs.lemmas.Option.{slice_get_within, slice_get-get_or, get_or_from_slice_get}
use Rattle.dsa_descriptor.specs.Faults.{AreZero}
use Rattle.dsa_descriptor.specs.Fences.{fenced, is_fenced}
use Rattle.dsa_descriptor.specs.Lists.{entries, entry, AreEntries, AreOfOneOwner}
use Rattle.dsa_descriptor.specs.Places.{u32_at}
use Rattle.dsa_descriptor.specs.Spans.{InSpan, span}
use Rattle.dsa_descriptor.proofs.Entries.{length-chunks}
use Rattle.dsa_ranges.specs.Pieces.{Kind}
use Rattle.dsa_emission.specs.declared.place.Place.{Place}
use Rattle.dsa_settings.specs.Plan.{Group, Plan, start_of}
use Rattle.dsa_settings.specs.Shapes.{HasGroupShape}
use Rattle.dsa_settings.specs.Settings.{Limits, AreInLimits}
use Rattle.dsa_emission.specs.Emission.{is_batch, batched_count, place_of, batch_spelling, group_entry, CanBeEmittedAs}
use Rattle.dsa_emission.specs.EmissionFaults.{is_batch_entry, entry_size, place_before, place_at_end, piece_bytes, owner_of, demands_of, Spells, IsBatchAt, HasBatches, HasZeroRecord, records_of, IsRead, IsEmissionAs}
use Rattle.dsa_emission.proofs.AtPlaces.{StandsBy, stands_by}
use Rattle.dsa_emission.proofs.Places.{batch_yes, batch_no, group_batch, group_lone}
use Rattle.dsa_emission.proofs.SamePlaces.{SameShape, place_same, SameEnd, end_same}
use Rattle.dsa_emission.proofs.Shapes.{sized_more}
use Rattle.dsa_emission.proofs.Spelt.{refenced_by, plain_by, owner_by}
use Rattle.dsa_emission.proofs.Told.{group_at, is_group_at, some_at}

-- ---- zeros

zeros_are : (bytes : List ℕ) → AreZero bytes → bytes ≡ replicate (length bytes) 0
zeros_are [] h = refl
zeros_are (b ∷ bytes) h =
    let e : b ≡ 0 = All-head (λ byte. byte ≡ 0) b bytes h in
    let es : bytes ≡ replicate (length bytes) 0 = zeros_are bytes (All-tail (λ byte. byte ≡ 0) b bytes h) in
    cc

-- records that are zero, one after another
pub zero_records : (n : ℕ) (records : List ℕ) → length records ≡ 32 * n → ((b : ℕ) → b < n → HasZeroRecord records b) → records ≡ replicate (32 * n) 0
zero_records n records long each = zeros_are records all ∙ ap (λ (k : ℕ). replicate k 0) long
  where
    all : AreZero records
    all k d lt =
        let inside : k % 32 < length (take 32 (drop (32 * (k / 32)) records)) = omega (arith, length-take 32 (drop (32 * (k / 32)) records), length-drop (32 * (k / 32)) records) in
        let sum : 32 * (k / 32) + k % 32 ≡ k = omega arith in
        sym (get_or-take 32 (drop (32 * (k / 32)) records) (k % 32) d (omega arith) ∙ get_or-drop (32 * (k / 32)) records (k % 32) d ∙ ap (λ (i : ℕ). get_or records i d) sum)
        ∙ each (k / 32) (omega arith) (k % 32) d inside

-- ---- the whole that was read

pub record Whole {P : Type 0} (kind : Kind P) (s : Limits) (portal staging : List ℕ) (plan : Plan) (ps : List P) : Type 0 where
  pub limits : AreInLimits s
  pub batches : HasBatches s portal staging
  pub read : IsRead kind (demands_of s (entries portal) (entries staging)) (entries portal) (entries staging) (length (entries portal)) plan ps
  pub zeros : (b : ℕ) → b < (place_at_end (entries portal)).batches → HasZeroRecord (records_of portal staging) b

batch_told : (b : Bool) (count : ℕ) (g : Group) → length g ≡ cond b count 1 → (b ≡ true → 2 ≤ count) → is_batch g ≡ b
batch_told true count g size two = batch_yes g (omega (arith, two refl))
batch_told false count g size two = batch_no g (λ more. absurd (omega arith))

size_some : (b : Bool) (count : ℕ) → (b ≡ true → 2 ≤ count) → 0 < cond b count 1
size_some true count two = omega (arith, two refl)
size_some false count two = omega arith

size_few : (b : Bool) (count most : ℕ) → 2 ≤ most → (b ≡ true → count ≤ most) → cond b count 1 ≤ most
size_few true count most two few = few refl
size_few false count most two few = omega arith

module _ (P : Type 0) (kind : Kind P) (are : AreEntries kind.spelling kind.keeps) (s : Limits) (portal staging : List ℕ) (plan : Plan) (ps : List P) (w : Whole kind s portal staging plan ps) where
  right : (k : ℕ) → k < length (entries portal) → is_batch_entry (slice_index_or (entries portal) k []) ≡ true →
      IsBatchAt s (owner_of portal staging) (place_at_end (entries portal)).batched (place_before (entries portal) k) (slice_index_or (entries portal) k [])
  right = w.batches.right

  some_size : (k : ℕ) → k < length (entries portal) → 0 < entry_size (slice_index_or (entries portal) k [])
  some_size k lt = size_some (is_batch_entry (slice_index_or (entries portal) k [])) (u32_at 32 (slice_index_or (entries portal) k [])) (λ is. (right k lt is).least)

  shape : SameShape (entries portal) plan
  shape = record {
    count = w.read.groups;
    sizes = λ k lt. w.read.sizes k (group_at plan k) (is_group_at plan k (omega (arith, w.read.groups)));
    batches = λ k lt.
        batch_told (is_batch_entry (slice_index_or (entries portal) k [])) (u32_at 32 (slice_index_or (entries portal) k [])) (group_at plan k)
        (w.read.sizes k (group_at plan k) (is_group_at plan k (omega (arith, w.read.groups)))) (λ is. (right k lt is).least);
  }

  whole_end : SameEnd (entries portal) plan
  whole_end = end_same (entries portal) plan shape

  placed : (n : ℕ) → place_of plan n ≡ place_before (entries portal) n
  placed n = place_same (entries portal) plan n shape

  piece_at : (number k : ℕ) → number < length (entries portal) → k < entry_size (slice_index_or (entries portal) number []) → (d : P) × (slice_get ps ((place_before (entries portal) number).start + k) ≡ Some d)
  piece_at number k lt inside =
      let within : (place_before (entries portal) number).start + k < length ps = omega (arith, sized_more (entries portal) number lt, w.read.pieces) in
      let (d, at) = some_at ps ((place_before (entries portal) number).start + k) within in
      (d, slice_get-get_or ps ((place_before (entries portal) number).start + k) d within ∙ ap Some (sym at))

  -- the first piece of each group, unfenced
  record FirstOf (number : ℕ) : Type 0 where
    piece : P
    here : slice_get ps (place_before (entries portal) number).start ≡ Some piece
    spelt : Spells kind (piece_bytes (entries portal) (entries staging) number 0) piece
    unfenced : is_fenced (piece_bytes (entries portal) (entries staging) number 0) ≡ false
    begins : slice_get (group_at plan number) 0 ≡ Some false

  first_of : (number : ℕ) → number < length (entries portal) → FirstOf number
  first_of number lt =
      let size : 0 < length (group_at plan number) = omega (arith, some_size number lt, shape.sizes number lt) in
      let (d, at) = piece_at number 0 lt (some_size number lt) in
      let flag : slice_get (group_at plan number) 0 ≡ Some (get_or (group_at plan number) 0 false) = slice_get-get_or (group_at plan number) 0 false size in
      let both = w.read.each number (group_at plan number) 0 (get_or (group_at plan number) 0 false) d (is_group_at plan number (omega (arith, w.read.groups))) flag at in
      let start : (place_before (entries portal) number).start + 0 ≡ (place_before (entries portal) number).start = omega arith in
      record {
        piece = d;
        here = ap (slice_get ps) (sym start) ∙ at;
        spelt = both.1;
        unfenced = w.read.firsts number lt;
        begins = flag ∙ ap Some (both.0 ∙ w.read.firsts number lt);
      }

  -- it can be emitted

  count_of : length ps ≡ (place_at_end (entries portal)).start
  count_of = w.read.pieces

  shapes : (number : ℕ) (g : Group) → slice_get plan number ≡ Some g → HasGroupShape s.greatest_batch g
  shapes number g is =
      let lt : number < length (entries portal) = omega (arith, slice_get_within plan number g is, w.read.groups) in
      let size : length g ≡ entry_size (slice_index_or (entries portal) number []) = w.read.sizes number g is in
      let few : entry_size (slice_index_or (entries portal) number []) ≤ s.greatest_batch =
      size_few (is_batch_entry (slice_index_or (entries portal) number [])) (u32_at 32 (slice_index_or (entries portal) number [])) s.greatest_batch w.limits.least_batch (λ batch. (right number lt batch).most) in
      record {
        size = record { nonempty = omega (arith, some_size number lt, size); fits = omega (arith, size, few) };
        begins = subst (λ (h : Group). slice_get h 0 ≡ Some false) (get_or_from_slice_get plan number g [] is) (first_of number lt).begins;
      }

  one_owner : AreOfOneOwner kind.spelling ps
  one_owner i j d lt inside =
      let a = (w.read.fit i d (omega (arith, lt, inside))).owned in
      let b = (w.read.fit j d inside).owned in
      (sym a.0 ∙ b.0, sym a.1 ∙ b.1)

  can_be : CanBeEmittedAs kind s plan ps
  can_be = record {
    covers = whole_end.pieces ∙ sym count_of;
    few = omega (arith, count_of, w.batches.lengths.staged.few);
    shapes = shapes;
    one_owner = one_owner;
    short = λ k d lt. (w.read.fit k d lt).short;
    clear = λ k d lt address inside. (w.read.fit k d lt).clear address (subst (λ (n : ℕ). InSpan (span s.staging (96 * n)) address) count_of inside);
  }

  -- and each entry is that of its place

  first_owner : 0 < length (entries portal) → (d : P) × (slice_get ps 0 ≡ Some d) × (owner_of portal staging ≡ take 4 (kind.spelling d))
  first_owner lt =
      let f : FirstOf 0 = first_of 0 lt in
      (f.piece, f.here, owner_by P kind are (piece_bytes (entries portal) (entries staging) 0 0) f.piece f.spelt)

  batch_there : (number : ℕ) (g : Group) → slice_get plan number ≡ Some g → 1 < length g → entry portal number ≡ group_entry kind.spelling s (batched_count plan) (place_of plan number) g ps
  batch_there number g is more =
      let lt : number < length (entries portal) = omega (arith, slice_get_within plan number g is, w.read.groups) in
      let size : length g ≡ entry_size (entry portal number) = w.read.sizes number g is in
      let batch : is_batch_entry (entry portal number) ≡ true = sym (shape.batches number lt) ∙ ap is_batch (get_or_from_slice_get plan number g [] is) ∙ batch_yes g more in
      let here = right number lt batch in
      let (d, at, owner) = first_owner (omega arith) in
      let some : 0 < length ps = slice_get_within ps 0 d at in
      let count : u32_at 32 (entry portal number) ≡ length g = sym (size ∙ ap (λ (b : Bool). cond b (u32_at 32 (entry portal number)) 1) batch) in
      here.bytes
      ∙ ap (λ (o : List ℕ). batch_spelling o (s.staging + 64 * (place_at_end (entries portal)).batched + 32 * (place_before (entries portal) number).batches) (s.staging + 64 * (place_before (entries portal) number).batched) (u32_at 32 (entry portal number))) owner
      ∙ ap (λ (n : ℕ). batch_spelling (take 4 (kind.spelling d)) (s.staging + 64 * (place_at_end (entries portal)).batched + 32 * (place_before (entries portal) number).batches) (s.staging + 64 * (place_before (entries portal) number).batched) n) count
      ∙ ap (λ (n : ℕ). batch_spelling (take 4 (kind.spelling d)) (s.staging + 64 * n + 32 * (place_before (entries portal) number).batches) (s.staging + 64 * (place_before (entries portal) number).batched) (length g)) (sym whole_end.batched_total)
      ∙ ap (λ (p : Place). batch_spelling (take 4 (kind.spelling d)) (s.staging + 64 * batched_count plan + 32 * p.batches) (s.staging + 64 * p.batched) (length g)) (sym (placed number))
      ∙ sym (group_batch P kind.spelling s (batched_count plan) (place_of plan number) g ps d more some (are.whole d) (sym (get_or_from_slice_get ps 0 d d at)))

  lone_there : (number : ℕ) (g : Group) → slice_get plan number ≡ Some g → (1 < length g → ⊥) → entry portal number ≡ group_entry kind.spelling s (batched_count plan) (place_of plan number) g ps
  lone_there number g is few =
      let lt : number < length (entries portal) = omega (arith, slice_get_within plan number g is, w.read.groups) in
      let one : length g ≡ 1 = omega (arith, w.read.sizes number g is, some_size number lt) in
      let lone : is_batch_entry (entry portal number) ≡ false = sym (shape.batches number lt) ∙ ap is_batch (get_or_from_slice_get plan number g [] is) ∙ batch_no g few in
      let f : FirstOf number = first_of number lt in
      let start : start_of plan number ≡ (place_before (entries portal) number).start = ap (λ (p : Place). p.start) (placed number) in
      let at : slice_get ps (start_of plan number) ≡ Some f.piece = ap (slice_get ps) start ∙ f.here in
      let bytes : entry portal number ≡ piece_bytes (entries portal) (entries staging) number 0 =
      ap (λ (b : Bool). cond b (slice_index_or (entries staging) ((place_before (entries portal) number).batched + 0) []) (entry portal number)) (sym lone) in
      bytes ∙ plain_by P kind are (piece_bytes (entries portal) (entries staging) number 0) f.piece f.unfenced f.spelt
      ∙ sym (group_lone P kind.spelling s (batched_count plan) (place_of plan number) g ps f.piece one (slice_get_within ps (start_of plan number) f.piece at) (sym (get_or_from_slice_get ps (start_of plan number) f.piece f.piece at)))

  piece_there : (number : ℕ) (g : Group) (k : ℕ) (fence : Bool) (d : P) → slice_get plan number ≡ Some g → 1 < length g → slice_get g k ≡ Some fence → slice_get ps (start_of plan number + k) ≡ Some d →
      entry staging (batched_count (take number plan) + k) ≡ fenced fence (kind.spelling d)
  piece_there number g k fence d is more flag at =
      let lt : number < length (entries portal) = omega (arith, slice_get_within plan number g is, w.read.groups) in
      let batch : is_batch_entry (entry portal number) ≡ true = sym (shape.batches number lt) ∙ ap is_batch (get_or_from_slice_get plan number g [] is) ∙ batch_yes g more in
      let both = w.read.each number g k fence d is flag (ap (λ (p : Place). slice_get ps (p.start + k)) (sym (placed number)) ∙ at) in
      ap (λ (p : Place). slice_index_or (entries staging) (p.batched + k) []) (placed number)
      ∙ ap (λ (b : Bool). cond b (slice_index_or (entries staging) ((place_before (entries portal) number).batched + k) []) (entry portal number)) (sym batch)
      ∙ refenced_by P kind are (piece_bytes (entries portal) (entries staging) number k) fence d both.0 both.1

  stands : StandsBy kind.spelling s plan ps portal staging
  stands = record {
    portal_length = omega (arith, w.read.groups, w.batches.lengths.whole, length-chunks (length portal / 64) portal);
    staging_length = omega (arith, w.batches.lengths.staged.long, whole_end.batched_total, whole_end.batch_total);
    entries = λ number g is. elim (cases_lt 1 (length g)) [ inl more ↦ batch_there number g is more | inr few ↦ lone_there number g is (λ more. absurd (omega arith)) ];
    pieces = λ number g k fence d is more flag at. piece_there number g k fence d is more flag at;
    records = ap (λ (n : ℕ). drop (64 * n) staging) whole_end.batched_total
        ∙ zero_records (place_at_end (entries portal)).batches (records_of portal staging) (omega (arith, length-drop (64 * (place_at_end (entries portal)).batched) staging, w.batches.lengths.staged.long)) w.zeros
        ∙ ap (λ (n : ℕ). replicate (32 * n) 0) (sym whole_end.batch_total);
  }

  pub recovered : IsEmissionAs kind s portal staging plan ps
  recovered =
      let both = (stands_by P kind are s plan ps portal staging can_be).1 stands in
      record { can_be = can_be; portal_is = both.0; staging_is = both.1 }
