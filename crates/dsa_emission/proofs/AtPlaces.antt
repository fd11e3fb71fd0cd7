-- The emission of a plan and its pieces, place by place.
use Rattle.std.proofs.Common.{ℕ, zero, suc, ◌≡◌, ◌+◌, ◌-◌, ◌*◌, ◌/◌, ◌<◌, ◌≤◌, ◌↔◌, inl, inr, Bool, List, [], ◌∷◌, ◌++◌, length, take, drop, Some, refl, sym, ap, ◌∙◌, subst, slice_get, zero-add, append_assoc, add-one, arith}
use Rattle.std.specs.Prelude.{map, replicate}
use Rattle.std.proofs.Math.Seq.{take-add}
use Rattle.std.proofs.lemmas.Bool.{cases_lt}
use Rattle.std.proofs.lemmas.List.{take_all, take_at, drop_at, take-take, drop-take, drop-drop, length-append, length-drop, length-replicate, take-append-drop, append-nil}
use Rattle.std.proofs.lemmas.List.Sums.{sum_by_more, sum_by-take-le}
use Rattle.std.proofs.lemmas.Option.{same_Some, slice_get_within, get_or_from_slice_get}
use Rattle.dsa_descriptor.specs.declared.descriptor.Descriptor.{Descriptor}
use Rattle.dsa_descriptor.specs.Descriptors.{fields}
use Rattle.dsa_descriptor.specs.Fences.{fenced}
use Rattle.dsa_descriptor.specs.Lists.{AreEntries, entry}
use Rattle.dsa_descriptor.specs.Spelling.{spelling}
use Rattle.dsa_descriptor.proofs.Entries.{chunk}
use Rattle.dsa_descriptor.proofs.Fenced.{fenced_alike}
use Rattle.dsa_descriptor.proofs.Listed.{are_entries, spelt}
use Rattle.dsa_ranges.specs.Pieces.{Kind, descriptors}
use Rattle.dsa_settings.specs.Plan.{Group, Plan, start_of}
use Rattle.dsa_settings.specs.Settings.{Limits}
use Rattle.dsa_emission.specs.Emission.{batched, batch_count, batched_count, place_of, group_entry, fenced_pieces, group_staged, joined, portal_of, staging_of, portal_bytes, staging_bytes, CanBeEmitted, CanBeEmittedAs}
use Rattle.dsa_emission.specs.EmissionLaws.{StandsAtPlaces}
use Rattle.dsa_emission.proofs.OfDescriptors.{can_as}
use Rattle.dsa_emission.proofs.Places.{batch_yes, batch_pieces, lone_pieces, entry_map, portal_map, staging_map}
use Rattle.dsa_emission.proofs.Spelt.{length-fenced_by}
use Rattle.dsa_emission.proofs.Told.{Fits, fits_by, group_at, is_group_at, entry_of, staged_of, length-joined, length-entry, length-staged, length-pieces}

-- ---- parts one after another

-- the part of each number, after those before it
pub part_at : (part : ℕ → List ℕ) (n m : ℕ) (rest : List ℕ) → m < n → take (length (part m)) (drop (length (joined part m)) (joined part n ++ rest)) ≡ part m
part_at part zero m rest lt = absurd (omega arith)
part_at part (suc n) m rest lt =
    let moved : joined part (suc n) ++ rest ≡ joined part n ++ (part n ++ rest) = append_assoc (joined part n) (part n) rest in
    elim (cases_lt m n) [
      | inl less ↦
          ap (λ (bytes : List ℕ). take (length (part m)) (drop (length (joined part m)) bytes)) moved ∙ part_at part n m (part n ++ rest) less
      | inr most ↦
          let same : n ≡ m = omega arith in
          subst (λ (z : ℕ). take (length (part z)) (drop (length (joined part z)) (joined part (suc n) ++ rest)) ≡ part z) same
          (ap (λ (bytes : List ℕ). take (length (part n)) (drop (length (joined part n)) bytes)) moved
          ∙ ap (take (length (part n))) (drop_at (joined part n) (part n ++ rest) (length (joined part n)) refl) ∙ take_at (part n) rest (length (part n)) refl)
    ]

-- bytes with each part at its place are the parts one after another
pub from_parts : (part : ℕ → List ℕ) (n : ℕ) (bytes : List ℕ) → ((m : ℕ) → m < n → take (length (part m)) (drop (length (joined part m)) bytes) ≡ part m) → take (length (joined part n)) bytes ≡ joined part n
from_parts part zero bytes each = refl
from_parts part (suc n) bytes each =
    ap (λ (k : ℕ). take k bytes) (length-append (joined part n) (part n))
    ∙ take-add (length (joined part n)) (length (part n)) bytes
    ∙ (λ i. from_parts part n bytes (λ m lt. each m (omega arith)) i ++ each n (omega arith) i)

pub entry_is : (bytes : List ℕ) (i : ℕ) → 64 * i + 64 ≤ length bytes → entry bytes i ≡ take 64 (drop (64 * i) bytes)
entry_is bytes i within = chunk (length bytes / 64) i bytes (omega arith)

slice_get-drop : {P : Type 0} (n : ℕ) (ps : List P) (k : ℕ) → slice_get (drop n ps) k ≡ slice_get ps (n + k)
slice_get-drop zero ps k = ap (slice_get ps) (sym (zero-add k))
slice_get-drop (suc n) [] k = refl
slice_get-drop (suc n) (p ∷ ps) k = slice_get-drop n ps k ∙ (let step : suc (n + k) ≡ suc n + k = omega arith in ap (slice_get (p ∷ ps)) step)

-- within a cut the entries are those of the whole
within_cut : (bytes : List ℕ) (a b : ℕ) → a + 64 ≤ b → take 64 (drop a (take b bytes)) ≡ take 64 (drop a bytes)
within_cut bytes a b room =
    let sum : b ≡ a + (b - a) = omega arith in
    ap (λ (n : ℕ). take 64 (drop a (take n bytes))) sum ∙ ap (take 64) (drop-take a (b - a) bytes) ∙ take-take 64 (b - a) (drop a bytes) (omega arith)

room_of : (plan : Plan) (m : ℕ) → m < length plan → batched_count (take m plan) + batched (group_at plan m) ≤ batched_count plan
room_of plan m lt = omega (arith, sum_by_more batched plan m [] lt, sum_by-take-le batched plan (m + 1))

-- ---- pieces of a kind

-- what is at each place of the portal and the staging area of a plan and its pieces, by the bytes that spell each
pub record StandsBy {P : Type 0} (spell : P → List ℕ) (s : Limits) (plan : Plan) (ps : List P) (portal staging : List ℕ) : Type 0 where
  pub portal_length : length portal ≡ 64 * length plan
  pub staging_length : length staging ≡ 64 * batched_count plan + 32 * batch_count plan
  pub entries :
      (number : ℕ) (group : Group) → slice_get plan number ≡ Some group →
      entry portal number ≡ group_entry spell s (batched_count plan) (place_of plan number) group ps
  pub pieces :
      (number : ℕ) (group : Group) (k : ℕ) (fence : Bool) (p : P) → slice_get plan number ≡ Some group → 1 < length group →
      slice_get group k ≡ Some fence → slice_get ps (start_of plan number + k) ≡ Some p →
      entry staging (batched_count (take number plan) + k) ≡ fenced fence (spell p)
  pub records : drop (64 * batched_count plan) staging ≡ replicate (32 * batch_count plan) 0

module _ (P : Type 0) (kind : Kind P) (are : AreEntries kind.spelling kind.keeps) where
  -- ---- the pieces of one batch

  piece_at : (g : Group) (es : List P) (k : ℕ) (fence : Bool) (e : P) → length g ≤ length es → slice_get g k ≡ Some fence → slice_get es k ≡ Some e →
      take 64 (drop (64 * k) (fenced_pieces kind.spelling g es)) ≡ fenced fence (kind.spelling e)
  piece_at [] es k fence e within p q = absurd (omega (arith, slice_get_within [] k fence p))
  piece_at (x ∷ g) [] k fence e within p q = absurd (omega arith)
  piece_at (x ∷ g) (d ∷ es) zero fence e within p q =
      take_at (fenced x (kind.spelling d)) (fenced_pieces kind.spelling g es) 64 (length-fenced_by P kind are x d)
      ∙ (λ i. fenced (same_Some x fence p i) (kind.spelling (same_Some d e q i)))
  piece_at (x ∷ g) (d ∷ es) (suc k) fence e within p q =
      let step : 64 * suc k ≡ 64 + 64 * k = omega arith in
      let skipped : drop 64 (fenced_pieces kind.spelling (x ∷ g) (d ∷ es)) ≡ fenced_pieces kind.spelling g es = drop_at (fenced x (kind.spelling d)) (fenced_pieces kind.spelling g es) 64 (length-fenced_by P kind are x d) in
      ap (λ (n : ℕ). take 64 (drop n (fenced_pieces kind.spelling (x ∷ g) (d ∷ es)))) step
      ∙ ap (take 64) (sym (drop-drop (64 * k) 64 (fenced_pieces kind.spelling (x ∷ g) (d ∷ es))))
      ∙ ap (λ (bytes : List ℕ). take 64 (drop (64 * k) bytes)) skipped ∙ piece_at g es k fence e (omega arith) p q

  from_pieces : (g : Group) (es : List P) (bytes : List ℕ) → length g ≤ length es →
      ((k : ℕ) (fence : Bool) (e : P) → slice_get g k ≡ Some fence → slice_get es k ≡ Some e → take 64 (drop (64 * k) bytes) ≡ fenced fence (kind.spelling e)) →
      take (64 * length g) bytes ≡ fenced_pieces kind.spelling g es
  from_pieces [] es bytes within each = refl
  from_pieces (x ∷ g) [] bytes within each = absurd (omega arith)
  from_pieces (x ∷ g) (d ∷ es) bytes within each =
      let size : 64 * length (x ∷ g) ≡ 64 + 64 * length g = omega arith in
      let later : take (64 * length g) (drop 64 bytes) ≡ fenced_pieces kind.spelling g es =
      from_pieces g es (drop 64 bytes) (omega arith)
      (λ k fence e p q.
      let step : 64 + 64 * k ≡ 64 * suc k = omega arith in
      ap (take 64) (drop-drop (64 * k) 64 bytes ∙ ap (λ (n : ℕ). drop n bytes) step) ∙ each (suc k) fence e p q) in
      ap (λ (n : ℕ). take n bytes) size ∙ take-add 64 (64 * length g) bytes ∙ (λ i. each 0 x d refl refl i ++ later i)

  -- ---- the staging area

  length-staged_before : (s : Limits) (plan : Plan) (ps : List P) → CanBeEmittedAs kind s plan ps → (m : ℕ) → m ≤ length plan → length (joined (staged_of kind.spelling plan ps) m) ≡ 64 * batched_count (take m plan)
  length-staged_before s plan ps h zero within = refl
  length-staged_before s plan ps h (suc m) within =
      let before : length (joined (staged_of kind.spelling plan ps) m) ≡ 64 * batched_count (take m plan) = length-staged_before s plan ps h m (omega arith) in
      let here : length (staged_of kind.spelling plan ps m) ≡ 64 * batched (group_at plan m) = length-staged P kind are (place_of plan m) (group_at plan m) ps (fits_by P kind are s plan ps h m (omega arith)) in
      let more : batched_count (take (suc m) plan) ≡ batched_count (take m plan) + batched (group_at plan m) = rw add-one at (sum_by_more batched plan m [] (omega arith)) in
      omega (arith, length-append (joined (staged_of kind.spelling plan ps) m) (staged_of kind.spelling plan ps m))

  -- the numbers that the proof needs of a plan that can be emitted
  record Numbers (s : Limits) (plan : Plan) (ps : List P) : Type 0 where
    long : (k : ℕ) → k < length plan → length (entry_of kind.spelling s plan ps k) ≡ 64
    portal_before : (k : ℕ) → k ≤ length plan → length (joined (entry_of kind.spelling s plan ps) k) ≡ 64 * k
    staged_before : (k : ℕ) → k ≤ length plan → length (joined (staged_of kind.spelling plan ps) k) ≡ 64 * batched_count (take k plan)
    staged_all : length (joined (staged_of kind.spelling plan ps) (length plan)) ≡ 64 * batched_count plan

  numbers : (s : Limits) (plan : Plan) (ps : List P) → CanBeEmittedAs kind s plan ps → Numbers s plan ps
  numbers s plan ps h =
      let long : (k : ℕ) → k < length plan → length (entry_of kind.spelling s plan ps k) ≡ 64 = λ k lt. length-entry P kind are s (batched_count plan) (place_of plan k) (group_at plan k) ps (fits_by P kind are s plan ps h k lt) in
      record {
        long = long;
        portal_before = λ k le. length-joined (entry_of kind.spelling s plan ps) 64 k (λ j lt. long j (omega arith));
        staged_before = length-staged_before s plan ps h;
        staged_all = length-staged_before s plan ps h (length plan) (omega arith) ∙ ap (λ (p : Plan). 64 * batched_count p) (take_all (length plan) plan (omega arith));
      }

  -- ---- from the whole to the places

  entry_there : (s : Limits) (plan : Plan) (ps : List P) (portal : List ℕ) → Numbers s plan ps → portal ≡ portal_of kind.spelling s plan ps → (m : ℕ) → m < length plan → entry portal m ≡ entry_of kind.spelling s plan ps m
  entry_there s plan ps portal n p m lt =
      let whole : length portal ≡ 64 * length plan = ap length p ∙ n.portal_before (length plan) (omega arith) in
      let here : take (length (entry_of kind.spelling s plan ps m)) (drop (length (joined (entry_of kind.spelling s plan ps) m)) (joined (entry_of kind.spelling s plan ps) (length plan) ++ [])) ≡ entry_of kind.spelling s plan ps m = part_at (entry_of kind.spelling s plan ps) (length plan) m [] lt in
      entry_is portal m (omega arith)
      ∙ ap (λ (bytes : List ℕ). take 64 (drop (64 * m) bytes)) (p ∙ sym (append-nil (joined (entry_of kind.spelling s plan ps) (length plan))))
      ∙ ap (λ (k : ℕ). take k (drop (64 * m) (joined (entry_of kind.spelling s plan ps) (length plan) ++ []))) (sym (n.long m lt))
      ∙ ap (λ (k : ℕ). take (length (entry_of kind.spelling s plan ps m)) (drop k (joined (entry_of kind.spelling s plan ps) (length plan) ++ []))) (sym (n.portal_before m (omega arith)))
      ∙ here

  staged_there : (s : Limits) (plan : Plan) (ps : List P) (staging : List ℕ) → Numbers s plan ps → staging ≡ staging_of kind.spelling plan ps → (m : ℕ) → m < length plan →
      take (length (staged_of kind.spelling plan ps m)) (drop (64 * batched_count (take m plan)) staging) ≡ staged_of kind.spelling plan ps m
  staged_there s plan ps staging n q m lt =
      ap (λ (bytes : List ℕ). take (length (staged_of kind.spelling plan ps m)) (drop (64 * batched_count (take m plan)) bytes)) q
      ∙ ap (λ (k : ℕ). take (length (staged_of kind.spelling plan ps m)) (drop k (staging_of kind.spelling plan ps))) (sym (n.staged_before m (omega arith)))
      ∙ part_at (staged_of kind.spelling plan ps) (length plan) m (replicate (32 * batch_count plan) 0) lt

  -- what a batch has in the staging area
  record BatchFacts (plan : Plan) (ps : List P) (m : ℕ) (g : Group) : Type 0 where
    inside : m < length plan
    fits : Fits (place_of plan m) g ps
    cut : length g ≤ length (drop (start_of plan m) ps)
    bytes : staged_of kind.spelling plan ps m ≡ fenced_pieces kind.spelling g (drop (start_of plan m) ps)
    bytes_length : length (staged_of kind.spelling plan ps m) ≡ 64 * length g
    room : batched_count (take m plan) + length g ≤ batched_count plan

  batch_facts : (s : Limits) (plan : Plan) (ps : List P) → CanBeEmittedAs kind s plan ps → (m : ℕ) (g : Group) → slice_get plan m ≡ Some g → 1 < length g → BatchFacts plan ps m g
  batch_facts s plan ps h m g e more =
      let lt : m < length plan = slice_get_within plan m g e in
      let is : group_at plan m ≡ g = get_or_from_slice_get plan m g [] e in
      let fits : Fits (place_of plan m) g ps = subst (λ (z : Group). Fits (place_of plan m) z ps) is (fits_by P kind are s plan ps h m lt) in
      let cut : length g ≤ length (drop (start_of plan m) ps) = omega (arith, length-drop (start_of plan m) ps, fits.room) in
      let bytes : staged_of kind.spelling plan ps m ≡ fenced_pieces kind.spelling g (drop (start_of plan m) ps) =
      ap (λ (z : Group). group_staged kind.spelling (place_of plan m) z ps) is ∙ batch_pieces P kind.spelling (place_of plan m) g ps more in
      let size : batched (group_at plan m) ≡ length g = ap batched is ∙ (rw (batch_yes g more) refl) in
      record {
        inside = lt;
        fits = fits;
        cut = cut;
        bytes = bytes;
        bytes_length = ap length bytes ∙ length-pieces P kind are g (drop (start_of plan m) ps) cut;
        room = omega (arith, room_of plan m lt);
      }

  piece_there : (s : Limits) (plan : Plan) (ps : List P) (staging : List ℕ) → Numbers s plan ps → length staging ≡ 64 * batched_count plan + 32 * batch_count plan → staging ≡ staging_of kind.spelling plan ps →
      (m : ℕ) (g : Group) → BatchFacts plan ps m g → (k : ℕ) (fence : Bool) (d : P) → slice_get g k ≡ Some fence → slice_get ps (start_of plan m + k) ≡ Some d →
      entry staging (batched_count (take m plan) + k) ≡ fenced fence (kind.spelling d)
  piece_there s plan ps staging n whole q m g b k fence d p at =
      let lt : k < length g = slice_get_within g k fence p in
      let before : ℕ = batched_count (take m plan) in
      let step : 64 * (before + k) ≡ 64 * before + 64 * k = omega arith in
      let piece : slice_get (drop (start_of plan m) ps) k ≡ Some d = slice_get-drop (start_of plan m) ps k ∙ at in
      let all : take (64 * length g) (drop (64 * before) staging) ≡ fenced_pieces kind.spelling g (drop (start_of plan m) ps) =
      ap (λ (size : ℕ). take size (drop (64 * before) staging)) (sym b.bytes_length) ∙ staged_there s plan ps staging n q m b.inside ∙ b.bytes in
      entry_is staging (before + k) (omega (arith, b.room))
      ∙ ap (λ (size : ℕ). take 64 (drop size staging)) step
      ∙ ap (take 64) (sym (drop-drop (64 * k) (64 * before) staging))
      ∙ sym (within_cut (drop (64 * before) staging) (64 * k) (64 * length g) (omega arith))
      ∙ ap (λ (bytes : List ℕ). take 64 (drop (64 * k) bytes)) all
      ∙ piece_at g (drop (start_of plan m) ps) k fence d b.cut p piece

  places_of : (s : Limits) (plan : Plan) (ps : List P) (portal staging : List ℕ) → CanBeEmittedAs kind s plan ps →
      portal ≡ portal_of kind.spelling s plan ps → staging ≡ staging_of kind.spelling plan ps → StandsBy kind.spelling s plan ps portal staging
  places_of s plan ps portal staging h p q =
      let n : Numbers s plan ps = numbers s plan ps h in
      let whole : length staging ≡ 64 * batched_count plan + 32 * batch_count plan =
      ap length q ∙ omega (arith, length-append (joined (staged_of kind.spelling plan ps) (length plan)) (replicate (32 * batch_count plan) 0), n.staged_all, length-replicate {A = ℕ} (32 * batch_count plan) 0) in
      record {
        portal_length = ap length p ∙ n.portal_before (length plan) (omega arith);
        staging_length = whole;
        entries = λ m g e.
            entry_there s plan ps portal n p m (slice_get_within plan m g e)
            ∙ ap (λ (z : Group). group_entry kind.spelling s (batched_count plan) (place_of plan m) z ps) (get_or_from_slice_get plan m g [] e);
        pieces = λ m g k fence d e more f at. piece_there s plan ps staging n whole q m g (batch_facts s plan ps h m g e more) k fence d f at;
        records = ap (drop (64 * batched_count plan)) q ∙ drop_at (joined (staged_of kind.spelling plan ps) (length plan)) (replicate (32 * batch_count plan) 0) (64 * batched_count plan) n.staged_all;
      }

  -- ---- from the places to the whole

  portal_whole : (s : Limits) (plan : Plan) (ps : List P) (portal staging : List ℕ) → Numbers s plan ps → StandsBy kind.spelling s plan ps portal staging → portal ≡ portal_of kind.spelling s plan ps
  portal_whole s plan ps portal staging n r =
      let whole : length (joined (entry_of kind.spelling s plan ps) (length plan)) ≡ 64 * length plan = n.portal_before (length plan) (omega arith) in
      sym (take_all (length (joined (entry_of kind.spelling s plan ps) (length plan))) portal (omega (arith, r.portal_length)))
      ∙ from_parts (entry_of kind.spelling s plan ps) (length plan) portal
      (λ m lt.
      ap (λ (size : ℕ). take size (drop (length (joined (entry_of kind.spelling s plan ps) m)) portal)) (n.long m lt)
      ∙ ap (λ (size : ℕ). take 64 (drop size portal)) (n.portal_before m (omega arith))
      ∙ sym (entry_is portal m (omega (arith, r.portal_length)))
      ∙ r.entries m (group_at plan m) (is_group_at plan m lt))

  staged_whole : (s : Limits) (plan : Plan) (ps : List P) (portal staging : List ℕ) → CanBeEmittedAs kind s plan ps → Numbers s plan ps → StandsBy kind.spelling s plan ps portal staging → (m : ℕ) → m < length plan →
      take (length (staged_of kind.spelling plan ps m)) (drop (length (joined (staged_of kind.spelling plan ps) m)) staging) ≡ staged_of kind.spelling plan ps m
  staged_whole s plan ps portal staging h n r m lt =
      ap (λ (size : ℕ). take (length (staged_of kind.spelling plan ps m)) (drop size staging)) (n.staged_before m (omega arith))
      ∙ elim (cases_lt 1 (length (group_at plan m))) [
        | inr few ↦
            let none : staged_of kind.spelling plan ps m ≡ [] = lone_pieces P kind.spelling (place_of plan m) (group_at plan m) ps (λ more. absurd (omega arith)) in
            rw none refl
        | inl more ↦
            let b : BatchFacts plan ps m (group_at plan m) = batch_facts s plan ps h m (group_at plan m) (is_group_at plan m lt) more in
            ap (λ (size : ℕ). take size (drop (64 * batched_count (take m plan)) staging)) b.bytes_length
            ∙ from_pieces (group_at plan m) (drop (start_of plan m) ps) (drop (64 * batched_count (take m plan)) staging) b.cut
            (λ k fence d p q.
            let inside : k < length (group_at plan m) = slice_get_within (group_at plan m) k fence p in
            let step : 64 * batched_count (take m plan) + 64 * k ≡ 64 * (batched_count (take m plan) + k) = omega arith in
            ap (take 64) (drop-drop (64 * k) (64 * batched_count (take m plan)) staging ∙ ap (λ (size : ℕ). drop size staging) step)
            ∙ sym (entry_is staging (batched_count (take m plan) + k) (omega (arith, b.room, r.staging_length)))
            ∙ r.pieces m (group_at plan m) k fence d (is_group_at plan m lt) more p (sym (slice_get-drop (start_of plan m) ps k) ∙ q))
            ∙ sym b.bytes
      ]

  pub stands_by : (s : Limits) (plan : Plan) (ps : List P) (portal staging : List ℕ) → CanBeEmittedAs kind s plan ps →
      ((portal ≡ portal_of kind.spelling s plan ps) × (staging ≡ staging_of kind.spelling plan ps) ↔ StandsBy kind.spelling s plan ps portal staging)
  stands_by s plan ps portal staging h =
      let n : Numbers s plan ps = numbers s plan ps h in (
        λ e. places_of s plan ps portal staging h e.0 e.1,
        λ r. (
          portal_whole s plan ps portal staging n r,
          sym (take-append-drop (64 * batched_count plan) staging)
              ∙ (λ i. (ap (λ (size : ℕ). take size staging) (sym n.staged_all) ∙ from_parts (staged_of kind.spelling plan ps) (length plan) staging (staged_whole s plan ps portal staging h n r)) i ++ r.records i),
        ),
      )

-- ---- pieces that are descriptors

module _ (s : Limits) (plan : Plan) (ds : List Descriptor) (portal staging : List ℕ) where
  of_kind : StandsAtPlaces s plan ds portal staging → StandsBy spelt s plan ds portal staging
  of_kind r = record {
    portal_length = r.portal_length;
    staging_length = r.staging_length;
    entries = λ m g e. r.entries m g e ∙ sym (entry_map _ _ spelling fields s (batched_count plan) (place_of plan m) g ds);
    pieces = λ m g k fence d e more f at. r.descriptors m g k fence d e more f at ∙ sym (fenced_alike d fence);
    records = r.records;
  }

  of_descriptors : StandsBy spelt s plan ds portal staging → StandsAtPlaces s plan ds portal staging
  of_descriptors r = record {
    portal_length = r.portal_length;
    staging_length = r.staging_length;
    entries = λ m g e. r.entries m g e ∙ entry_map _ _ spelling fields s (batched_count plan) (place_of plan m) g ds;
    descriptors = λ m g k fence d e more f at. r.pieces m g k fence d e more f at ∙ fenced_alike d fence;
    records = r.records;
  }

  pub emission_at_places : CanBeEmitted s plan (map fields ds) →
      ((portal ≡ portal_bytes s plan (map fields ds)) × (staging ≡ staging_bytes plan (map fields ds)) ↔ StandsAtPlaces s plan ds portal staging)
  emission_at_places h =
      let both = stands_by Descriptor descriptors are_entries s plan ds portal staging (can_as s plan ds h) in
      let portal_as = portal_map _ _ spelling fields s plan ds in
      let staging_as = staging_map _ _ spelling fields plan ds in (
        λ e. of_descriptors (both.0 (e.0 ∙ sym portal_as, e.1 ∙ sym staging_as)),
        λ r. let back = both.1 (of_kind r) in (back.0 ∙ portal_as, back.1 ∙ staging_as),
      )
