-- The bytes that submit a plan are a portal and a staging area.
use Rattle.std.proofs.Common.{◌≡◌, ℕ, zero, suc, ◌+◌, ◌*◌, ◌/◌, ◌^◌, ◌<◌, ◌≤◌, eqb, inl, inr, List, [], ◌∷◌, ◌++◌, length, get_or, take, drop, refl, sym, ap, subst, ◌∙◌, arith}
use Rattle.std.specs.Prelude.{map, replicate}
use Rattle.std.specs.List.{AllByRecursion, AllZip, concat, flat_map}
use Rattle.std.proofs.lemmas.Bool.{cases_lt}
use Rattle.std.proofs.lemmas.List.{get_or_default, length-drop, length-replicate, length-take, replicate-append-replicate}
use Rattle.std.proofs.lemmas.List.Concat.{flat_map-append}
use Rattle.std.proofs.lemmas.List.Elements.{All-take, All-drop, All-replicate}
use Rattle.std.proofs.lemmas.Nat.{from_le_bytes-to_le_bytes_8}
use Rattle.dsa_descriptor.specs.declared.descriptor.Descriptor.{Descriptor}
use Rattle.dsa_descriptor.specs.Descriptors.{fields}
use Rattle.dsa_descriptor.specs.Fences.{fenced}
use Rattle.dsa_descriptor.specs.Fields.{Fields}
use Rattle.dsa_descriptor.specs.Lists.{entries, entry, AreEntries}
use Rattle.dsa_descriptor.specs.Places.{u64_at}
use Rattle.dsa_descriptor.specs.Spelling.{spelling}
use Rattle.dsa_descriptor.proofs.Entries.{length-chunks}
use Rattle.dsa_descriptor.proofs.Listed as listed
use Rattle.dsa_ranges.specs.Pieces.{Kind, descriptors}
use Rattle.dsa_settings.specs.Plan.{Group, Plan}
use Rattle.dsa_settings.specs.Settings.{Limits, AreInLimits}
use Rattle.dsa_emission.specs.declared.place.Place.{Place}
use Rattle.dsa_emission.specs.Emission.{batch_count, batched_count, place_of, batch_spelling, fenced_pieces, group_entry, group_staged, joined, portal_bytes, portal_of, staging_of, CanBeEmittedAs}
use Rattle.dsa_emission.proofs.AtPlaces.{StandsBy, stands_by}
use Rattle.dsa_emission.proofs.OfDescriptors.{can_as}
use Rattle.dsa_emission.proofs.Places.{batch_pieces, counts_within, lone_pieces, placed, portal_map, staging_map}
use Rattle.dsa_emission.proofs.Told.{Fits, batch_by, batch_is, fits_by, group_at, is_group_at, lone_is, staged_of}
use Rattle.dsa_operations.specs.declared.operation.Operation.{Operation}
use Rattle.dsa_operations.specs.declared.operation.Operation.TheVariants as operation
use Rattle.dsa_operations.specs.Operations.{operation_kind, spelling_of}
use Rattle.dsa_operations.proofs.Answered.{are_operations}
use Rattle.dsa_lines.specs.EmittedTexts.{DescriptorsHaveTexts, EmissionsHaveTexts, HaveTexts}
use Rattle.dsa_lines.specs.Portals.{Submission, IsBatchOf, IsKnown, Submits, IsPortal}
use Rattle.dsa_lines.specs.Portals.Submission.{Batch, Lone}
use Rattle.dsa_lines.specs.Stagings.{StagedPiece, BeginsRecord, IsEntry, IsRecord, IsStaging, staged_bytes, entry_bytes}
use Rattle.dsa_lines.specs.Stagings.StagedEntry.{Piece}
use Rattle.dsa_lines.proofs.StagingLemmas.{piece_or_record}

-- ---- the portal

list_told : (owner : List ℕ) (record_at list_at count : ℕ) → length owner ≡ 4 → list_at < 2 ^ 64 → u64_at 16 (batch_spelling owner record_at list_at count) ≡ list_at
unfolding batch_spelling u64_at
list_told [] record_at list_at count four lt = absurd (omega arith)
list_told (_ ∷ []) record_at list_at count four lt = absurd (omega arith)
list_told (_ ∷ _ ∷ []) record_at list_at count four lt = absurd (omega arith)
list_told (_ ∷ _ ∷ _ ∷ []) record_at list_at count four lt = absurd (omega arith)
list_told (_ ∷ _ ∷ _ ∷ _ ∷ []) record_at list_at count four lt = from_le_bytes-to_le_bytes_8 list_at lt
list_told (_ ∷ _ ∷ _ ∷ _ ∷ _ ∷ _) record_at list_at count four lt = absurd (omega arith)

record_told : (owner : List ℕ) (record_at list_at count : ℕ) → length owner ≡ 4 → record_at < 2 ^ 64 → u64_at 8 (batch_spelling owner record_at list_at count) ≡ record_at
unfolding batch_spelling u64_at
record_told [] record_at list_at count four lt = absurd (omega arith)
record_told (_ ∷ []) record_at list_at count four lt = absurd (omega arith)
record_told (_ ∷ _ ∷ []) record_at list_at count four lt = absurd (omega arith)
record_told (_ ∷ _ ∷ _ ∷ []) record_at list_at count four lt = absurd (omega arith)
record_told (_ ∷ _ ∷ _ ∷ _ ∷ []) record_at list_at count four lt = from_le_bytes-to_le_bytes_8 record_at lt
record_told (_ ∷ _ ∷ _ ∷ _ ∷ _ ∷ _) record_at list_at count four lt = absurd (omega arith)

-- entries that each submit something known
each_of : (es : List (List ℕ)) → ((i : ℕ) → i < length es → (t : Submission) × Submits (get_or es i []) t × IsKnown t)
    → (ts : List Submission) × AllZip Submits es ts × AllByRecursion IsKnown ts
each_of [] each = ([], tt, tt)
each_of (e ∷ es) each =
    let here = each 0 (omega arith) in
    let later = each_of es (λ i lt. each (suc i) (omega arith)) in
    (here.0 ∷ later.0, (here.1, later.1), (here.2, later.2))

-- ---- the staging area

-- parts that are pieces, one after another
joined_pieces : (part : ℕ → List ℕ) (n : ℕ) → ((k : ℕ) → k < n → (ps : List StagedPiece) × (part k ≡ flat_map staged_bytes ps)) → (ps : List StagedPiece) × (joined part n ≡ flat_map staged_bytes ps)
joined_pieces part zero each = ([], refl)
joined_pieces part (suc n) each =
    let before = joined_pieces part n (λ k lt. each k (omega arith)) in
    let here = each n (omega arith) in
    (before.0 ++ here.0, (λ i. before.1 i ++ here.1 i) ∙ sym (flat_map-append staged_bytes before.0 here.0))

-- pieces are entries, and zeros are records
piece_entries : (ps : List StagedPiece) → flat_map staged_bytes ps ≡ flat_map entry_bytes (map Piece ps)
piece_entries [] = refl
piece_entries (p ∷ ps) = ap (λ (b : List ℕ). staged_bytes p ++ b) (piece_entries ps)

are_entries : (ps : List StagedPiece) → AllByRecursion IsEntry (map Piece ps)
are_entries [] = tt
are_entries (p ∷ ps) = (record { shown = refl; no_record = piece_or_record p }, are_entries ps)

zero_at : (n i : ℕ) → get_or {A = ℕ} (replicate n 0) i 0 ≡ 0
zero_at zero i = refl
zero_at (suc n) zero = refl
zero_at (suc n) (suc i) = zero_at n i

zeros_at : (n i : ℕ) → get_or {A = ℕ} (replicate n 0) i 0 < 256
zeros_at n i = omega (arith, zero_at n i)

zero_bytes : (n : ℕ) → replicate (32 * n) 0 ≡ concat (replicate n (replicate 32 0))
zero_bytes zero = refl
zero_bytes (suc n) =
    let step : 32 * suc n ≡ 32 + 32 * n = omega arith in
    ap (λ (k : ℕ). replicate {A = ℕ} k 0) step ∙ sym (replicate-append-replicate {A = ℕ} 32 (32 * n) 0) ∙ ap (λ (b : List ℕ). replicate 32 0 ++ b) (zero_bytes n)

zero_records : (n : ℕ) → AllByRecursion IsRecord (replicate n (replicate 32 0))
zero_records zero = tt
zero_records (suc n) = (record { whole = length-replicate {A = ℕ} 32 0; are_bytes = zeros_at 32 }, zero_records n)

zeros_begin : (n : ℕ) → BeginsRecord (concat (replicate n (replicate 32 0)))
zeros_begin n =
    subst (λ (b : List ℕ). BeginsRecord b) (zero_bytes n) (
      zero_at (32 * n) 7,
      inr (All-take (λ byte. byte ≡ 0) 24 (drop 8 (replicate (32 * n) 0)) (All-drop (λ byte. byte ≡ 0) 8 (replicate (32 * n) 0) (All-replicate (λ byte. byte ≡ 0) (32 * n) 0 refl))),
    )

-- ---- pieces of a kind, each spelt as an operation

module _ (P : Type 0) (kind : Kind P) (are : AreEntries kind.spelling kind.keeps) (of : P → Operation) (same : (p : P) → kind.spelling p ≡ spelling_of (of p)) where
  -- the entry of a batch, at numbers that fit
  batch_there : (p : P) (record_at list_at count : ℕ) (bytes : List ℕ) → bytes ≡ batch_spelling (take 4 (kind.spelling p)) record_at list_at count → record_at < 2 ^ 64 → list_at < 2 ^ 64 → count < 2 ^ 32
      → Submits bytes (Batch count list_at record_at)
  batch_there p record_at list_at count bytes e a b c =
      let tells = batch_by P kind are p record_at list_at count in
      let owner : length (take 4 (kind.spelling p)) ≡ 4 = omega (arith, length-take 4 (kind.spelling p), are.whole p) in
      subst (IsBatchOf count list_at record_at) (sym e)
      (record {
        code = ap (λ (n : ℕ). eqb n 1) tells.code;
        count_there = tells.size c;
        list_there = list_told (take 4 (kind.spelling p)) record_at list_at count owner b;
        record_there = record_told (take 4 (kind.spelling p)) record_at list_at count owner a;
        count_fits = c;
        list_fits = b;
        record_fits = a;
      })

  -- what the group at a place submits
  group_there : (s : Limits) (total : ℕ) (place : Place) (g : Group) (ps : List P) (bytes : List ℕ) → AreInLimits s → Fits place g ps → total ≤ 65536 → place.batches ≤ 65536 → place.batched ≤ 65536
      → bytes ≡ group_entry kind.spelling s total place g ps → (t : Submission) × Submits bytes t × IsKnown t
  group_there s total place g ps bytes limits fits a b c e =
      elim (cases_lt 1 (length g)) [
        | inl more ↦
            let (p, is) = batch_is P kind are s total place g ps fits more in (
              Batch (length g) (s.staging + 64 * place.batched) (s.staging + 64 * total + 32 * place.batches),
              batch_there p (s.staging + 64 * total + 32 * place.batches) (s.staging + 64 * place.batched) (length g) bytes (e ∙ is)
                  (omega (arith, limits.most_staging)) (omega (arith, limits.most_staging)) (omega (arith, fits.room, fits.few)),
              tt,
            )
        | inr few ↦
            let (p, is, at) = lone_is P kind are s total place g ps fits (omega (arith, fits.nonempty)) in
            (Lone (of p), e ∙ is ∙ same p, tt)
      ]

  portal_there : (s : Limits) (plan : Plan) (ps : List P) (portal staging : List ℕ) → AreInLimits s → CanBeEmittedAs kind s plan ps → StandsBy kind.spelling s plan ps portal staging
      → (ts : List Submission) × IsPortal portal ts × AllByRecursion IsKnown ts
  portal_there s plan ps portal staging limits can stands =
      let count : length (entries portal) ≡ length plan = omega (arith, length-chunks (length portal / 64) portal, stands.portal_length) in
      let each = each_of (entries portal)
      (λ i lt.
      let within : i < length plan = omega arith in
      let here = placed plan i (group_at plan i) within (get_or_default plan i [] (group_at plan i) within) in
      let total = counts_within plan in
      group_there s (batched_count plan) (place_of plan i) (group_at plan i) ps (entry portal i) limits (fits_by P kind are s plan ps can i within)
      (omega (arith, total.1, can.covers, can.few)) (omega (arith, here.batches, here.room, can.covers, can.few)) (omega (arith, here.batched_pieces, here.room, can.covers, can.few))
      (stands.entries i (group_at plan i) (is_group_at plan i within))) in
      (each.0, record { whole = omega (arith, stands.portal_length); each = each.1 }, each.2)

  batch_pieces_there : (g : Group) (qs : List P) → length g ≤ length qs → (ps : List StagedPiece) × (fenced_pieces kind.spelling g qs ≡ flat_map staged_bytes ps) × (length ps ≡ length g)
  batch_pieces_there [] qs within = ([], refl, refl)
  batch_pieces_there (x ∷ g) [] within = absurd (omega arith)
  batch_pieces_there (x ∷ g) (q ∷ qs) within =
      let later = batch_pieces_there g qs (omega arith) in
      let p : StagedPiece = record { fence = x; piece = of q } in
      (p ∷ later.0, (λ i. fenced x (same q i) ++ later.1 i), omega (arith, later.2))

  -- the pieces that a group has there
  group_pieces : (place : Place) (g : Group) (qs : List P) → Fits place g qs → (ps : List StagedPiece) × (group_staged kind.spelling place g qs ≡ flat_map staged_bytes ps)
  group_pieces place g qs fits =
      elim (cases_lt 1 (length g)) [
        | inl more ↦
            let here = batch_pieces_there g (drop place.start qs) (omega (arith, length-drop place.start qs, fits.room)) in
            (here.0, batch_pieces P kind.spelling place g qs more ∙ here.1)
        | inr few ↦ ([], lone_pieces P kind.spelling place g qs (λ more. absurd (omega arith)))
      ]

  staging_there : (s : Limits) (plan : Plan) (ps : List P) → CanBeEmittedAs kind s plan ps
      → (qs : List StagedPiece) × (batches : ℕ) × IsStaging (staging_of kind.spelling plan ps) (map Piece qs) (replicate batches (replicate 32 0))
  staging_there s plan ps can =
      let all = joined_pieces (staged_of kind.spelling plan ps) (length plan)
      (λ k lt. group_pieces (place_of plan k) (group_at plan k) ps (fits_by P kind are s plan ps can k lt)) in
      let entries : joined (staged_of kind.spelling plan ps) (length plan) ≡ flat_map entry_bytes (map Piece all.0) = all.1 ∙ piece_entries all.0 in
      let records = zero_bytes (batch_count plan) in (
        all.0,
        batch_count plan,
        record {
          bytes_are = λ i. entries i ++ records i;
          each_entry = are_entries all.0;
          each_record = zero_records (batch_count plan);
          first_record = λ two. zeros_begin (batch_count plan);
        },
      )

  have_texts : (s : Limits) (plan : Plan) (ps : List P) → AreInLimits s → CanBeEmittedAs kind s plan ps → HaveTexts (portal_of kind.spelling s plan ps) (staging_of kind.spelling plan ps)
  have_texts s plan ps limits can =
      let portal : List ℕ = portal_of kind.spelling s plan ps in
      let staging : List ℕ = staging_of kind.spelling plan ps in
      (portal_there s plan ps portal staging limits can ((stands_by P kind are s plan ps portal staging can).0 (refl, refl)), staging_there s plan ps can)

pub emissions_have_texts : EmissionsHaveTexts
emissions_have_texts s plan os limits can = have_texts Operation operation_kind are_operations (λ o. o) (λ o. refl) s plan os limits can

pub descriptors_have_texts : DescriptorsHaveTexts
descriptors_have_texts s plan ds limits can =
    let texts = have_texts Descriptor descriptors listed.are_entries operation.Descriptor (λ d. refl) s plan ds limits (can_as s plan ds can) in
    let portal = portal_map Descriptor Fields spelling fields s plan ds in
    let staging = staging_map Descriptor Fields spelling fields plan ds in
    subst (λ (bytes : List ℕ). HaveTexts (portal_bytes s plan (map fields ds)) bytes) staging
    (subst (λ (bytes : List ℕ). HaveTexts bytes (staging_of (λ d. spelling (fields d)) plan ds)) portal texts)
